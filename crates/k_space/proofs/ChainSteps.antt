-- What stays of the chains after a change.
use Rattle.std.proofs.Common.{◌≡◌, ◌≢◌, ℕ, zero, suc, ◌+◌, ◌-◌, ◌<◌, ◌≤◌, refl, sym, ap, subst, ◌∙◌, inl, inr, bit_and, arith}
use Rattle.std.proofs.lemmas.Bool.{cases_eq, cases_order}
use Rattle.std.proofs.lemmas.Nat.{and_le_r}
use Rattle.k_space.specs.Chains.{AreChained, IsNext, chain_by, linked}

-- a mask below the number of chains leaves a number of a chain
pub masked : (bits chains : ℕ) → 0 < chains → bit_and bits (chains - 1) < chains
masked bits chains some = omega (arith, some, and_le_r bits (chains - 1))

-- the link where its parts are named otherwise
pub next_by : (serial : ℕ → ℕ) (chains chain chain' limit limit' link link' : ℕ) → chain ≡ chain' → limit ≡ limit' → link ≡ link' → IsNext serial chains chain limit link → IsNext serial chains chain' limit' link'
next_by serial chains chain chain' limit limit' link link' c l k next =
    subst (λ n. IsNext serial chains chain' limit' n) k (subst (λ n. IsNext serial chains chain' n link) l (subst (λ n. IsNext serial chains n limit link) c next))

-- a link leads to a serial below the limit
pub leads_below : (serial : ℕ → ℕ) (chains chain limit link slot : ℕ) → IsNext serial chains chain limit link → link ≡ suc slot → serial slot < limit
leads_below serial chains chain limit link slot next e = subst (λ n. linked serial n < limit) e next.low

linked_same : (serial other : ℕ → ℕ) (link : ℕ) → ((t : ℕ) → link ≡ suc t → other t ≡ serial t) → linked other link ≡ linked serial link
linked_same serial other zero same = refl
linked_same serial other (suc t) same = same t refl

-- the serials are the same
pub same_next : (serial other : ℕ → ℕ) (chains chain limit link : ℕ) → ((t : ℕ) → other t ≡ serial t) → IsNext serial chains chain limit link → IsNext other chains chain limit link
same_next serial other chains chain limit link same next =
    let leads : linked other link ≡ linked serial link = linked_same serial other link (λ t e. same t) in
    record {
      live = λ t e. omega (arith, same t, next.live t e);
      in_it = λ t e. ap (chain_by chains) (same t) ∙ next.in_it t e;
      low = omega (arith, leads, next.low);
      skips = λ t above below is. next.skips t (omega (arith, leads, same t, above)) (omega (arith, same t, below)) (ap (chain_by chains) (sym (same t)) ∙ is);
    }

pub same_chains : (serial before other after : ℕ → ℕ) (chains : ℕ) (head : ℕ → ℕ) (made : ℕ) → ((t : ℕ) → other t ≡ serial t) → ((t : ℕ) → after t ≡ before t) → AreChained serial before chains head made → AreChained other after chains head made
same_chains serial before other after chains head made same links was = record {
  filled = was.filled;
  apart = λ s t e some. was.apart s t (sym (same s) ∙ e ∙ same t) (omega (arith, same s, some));
  below = λ t. omega (arith, same t, was.below t);
  firsts = λ chain within. same_next serial other chains chain made (head chain) same (was.firsts chain within);
  befores = λ t some.
      next_by other chains (chain_by chains (serial t)) (chain_by chains (other t)) (serial t) (other t) (before t) (after t) (ap (chain_by chains) (sym (same t))) (sym (same t)) (sym (links t))
      (same_next serial other chains (chain_by chains (serial t)) (serial t) (before t) same (was.befores t (omega (arith, same t, some))));
}

-- another slot has changed, and its serial is none that the link passes
pub kept_next : (serial other : ℕ → ℕ) (slot chains chain limit link : ℕ) → ((t : ℕ) → t ≢ slot → other t ≡ serial t) → link ≢ suc slot →
    (linked serial link < other slot → other slot < limit → chain_by chains (other slot) ≡ chain → ⊥) → IsNext serial chains chain limit link → IsNext other chains chain limit link
kept_next serial other slot chains chain limit link same apart off next = record {
  live = λ t e. omega (arith, named t e, next.live t e);
  in_it = λ t e. ap (chain_by chains) (named t e) ∙ next.in_it t e;
  low = omega (arith, leads, next.low);
  skips = λ t above below is.
      elim (cases_eq t slot) [
        | inl e ↦
            let here : other t ≡ other slot = ap other e in
            off (omega (arith, leads, here, above)) (omega (arith, here, below)) (ap (chain_by chains) (sym here) ∙ is)
        | inr differs ↦ next.skips t (omega (arith, leads, same t differs, above)) (omega (arith, same t differs, below)) (ap (chain_by chains) (sym (same t differs)) ∙ is)
      ];
}
  where
    named : (t : ℕ) → link ≡ suc t → other t ≡ serial t
    named t e = same t (λ q. apart (e ∙ ap suc q))

    leads : linked other link ≡ linked serial link
    leads = linked_same serial other link named

-- two links lead to one slot only if no object stands between them
pub one_link : (serial : ℕ → ℕ) (chains chain low high slot between link link' : ℕ) → IsNext serial chains chain low link → IsNext serial chains chain high link' → link ≡ suc slot → link' ≡ suc slot →
    serial between ≡ low → low < high → chain_by chains (serial between) ≡ chain → ⊥
one_link serial chains chain low high slot between link link' one other e e' at less in_it =
    let first : serial slot < low = leads_below serial chains chain low link slot one e in
    let leads : linked serial link' ≡ serial slot = ap (linked serial) e' in
    other.skips between (omega (arith, leads, first, at)) (omega (arith, at, less)) in_it

-- the link of an object that is gone takes the place of the one that led to it
pub joined_next : (serial other : ℕ → ℕ) (slot chains chain limit link link' : ℕ) → ((s t : ℕ) → serial s ≡ serial t → 0 < serial s → s ≡ t) → ((t : ℕ) → t ≢ slot → other t ≡ serial t) → other slot ≡ 0 → 0 < serial slot → link ≡ suc slot →
    IsNext serial chains chain limit link → IsNext serial chains chain (serial slot) link' → IsNext other chains chain limit link'
joined_next serial other slot chains chain limit link link' distinct same gone some e next rest =
    let high : serial slot < limit = leads_below serial chains chain limit link slot next e in
    let leads : linked serial link ≡ serial slot = ap (linked serial) e in
    let apart : link' ≢ suc slot = λ q. let less : serial slot < serial slot = leads_below serial chains chain (serial slot) link' slot rest q in absurd (omega (arith, less)) in
    let now : IsNext other chains chain (serial slot) link' = kept_next serial other slot chains chain (serial slot) link' same apart (λ above below is. omega (arith, gone, above)) rest in
    record {
      live = now.live;
      in_it = now.in_it;
      low = omega (arith, now.low, high);
      skips = λ t above below is.
          elim (cases_eq t slot) [
            | inl q ↦
                let here : other t ≡ 0 = ap other q ∙ gone in
                omega (arith, here, above)
            | inr differs ↦
                elim (cases_order (serial t) (serial slot)) [
                  | inl equal ↦ differs (distinct t slot equal (omega (arith, equal, some)))
                  | inr sides ↦
                      elim sides [
                        | inl less ↦ now.skips t above (omega (arith, same t differs, less)) is
                        | inr more ↦ next.skips t (omega (arith, leads, more)) (omega (arith, same t differs, below)) (ap (chain_by chains) (sym (same t differs)) ∙ is)
                      ]
                ]
          ];
    }

apart_gone : (serial other : ℕ → ℕ) (slot : ℕ) → ((s t : ℕ) → serial s ≡ serial t → 0 < serial s → s ≡ t) → ((t : ℕ) → t ≢ slot → other t ≡ serial t) → other slot ≡ 0 → (s t : ℕ) → other s ≡ other t → 0 < other s → s ≡ t
apart_gone serial other slot distinct same gone s t e some =
    let one : s ≢ slot = λ q. let none : other s ≡ 0 = ap other q ∙ gone in omega (arith, none, some) in
    let two : t ≢ slot = λ q. let none : other t ≡ 0 = ap other q ∙ gone in omega (arith, none, e, some) in
    distinct s t (sym (same s one) ∙ e ∙ same t two) (omega (arith, same s one, some))

below_gone : (serial other : ℕ → ℕ) (slot made : ℕ) → ((t : ℕ) → serial t < made) → ((t : ℕ) → t ≢ slot → other t ≡ serial t) → other slot ≡ 0 → (t : ℕ) → other t < made
below_gone serial other slot made below same gone t =
    elim (cases_eq t slot) [
      | inl q ↦
          let here : other t ≡ 0 = ap other q ∙ gone in
          omega (arith, here, below slot)
      | inr differs ↦ omega (arith, same t differs, below t)
    ]

-- the youngest object of a chain is gone
pub unlinked_first : (serial before other after : ℕ → ℕ) (chains : ℕ) (head head' : ℕ → ℕ) (made slot : ℕ) → AreChained serial before chains head made → 0 < serial slot → head (chain_by chains (serial slot)) ≡ suc slot →
    ((t : ℕ) → t ≢ slot → other t ≡ serial t) → other slot ≡ 0 → ((t : ℕ) → t ≢ slot → after t ≡ before t) →
    head' (chain_by chains (serial slot)) ≡ before slot → ((c : ℕ) → c ≢ chain_by chains (serial slot) → head' c ≡ head c) → chain_by chains (serial slot) < chains → AreChained other after chains head' made
unlinked_first serial before other after chains head head' made slot was some leads same gone links now heads inside = record {
  filled = was.filled;
  apart = apart_gone serial other slot was.apart same gone;
  below = below_gone serial other slot made was.below same gone;
  firsts = λ c within.
      elim (cases_eq c (chain_by chains (serial slot))) [
        | inl q ↦
            next_by other chains (chain_by chains (serial slot)) c made made (before slot) (head' c) (sym q) refl (sym (ap head' q ∙ now))
            (joined_next serial other slot chains (chain_by chains (serial slot)) made (head (chain_by chains (serial slot))) (before slot) was.apart same gone some leads first (was.befores slot some))
        | inr differs ↦
            next_by other chains c c made made (head c) (head' c) refl refl (sym (heads c differs))
            (kept_next serial other slot chains c made (head c) same (λ e. differs (sym ((was.firsts c within).in_it slot e))) (λ above below is. omega (arith, gone, above)) (was.firsts c within))
      ];
  befores = λ t live. by_slot t live (λ q. let none : other t ≡ 0 = ap other q ∙ gone in omega (arith, none, live));
}
  where
    first : IsNext serial chains (chain_by chains (serial slot)) made (head (chain_by chains (serial slot)))
    first = was.firsts (chain_by chains (serial slot)) inside

    by_slot : (t : ℕ) → 0 < other t → t ≢ slot → IsNext other chains (chain_by chains (other t)) (other t) (after t)
    by_slot t live differs =
        let here : 0 < serial t = omega (arith, same t differs, live) in
        let next = was.befores t here in
        next_by other chains (chain_by chains (serial t)) (chain_by chains (other t)) (serial t) (other t) (before t) (after t) (ap (chain_by chains) (sym (same t differs))) (sym (same t differs)) (sym (links t differs))
        (kept_next serial other slot chains (chain_by chains (serial t)) (serial t) (before t) same
        (λ e.
        let to : IsNext serial chains (chain_by chains (serial slot)) (serial t) (before t) = next_by serial chains (chain_by chains (serial t)) (chain_by chains (serial slot)) (serial t) (serial t) (before t) (before t) (sym (next.in_it slot e)) refl refl next in
        one_link serial chains (chain_by chains (serial slot)) (serial t) made slot t (before t) (head (chain_by chains (serial slot))) to first e leads refl (was.below t) (sym (next.in_it slot e)))
        (λ above below is. omega (arith, gone, above)) next)

-- an object that isn't the youngest of its chain is gone
pub unlinked_passed : (serial before other after : ℕ → ℕ) (chains : ℕ) (head : ℕ → ℕ) (made slot newer : ℕ) → AreChained serial before chains head made → 0 < serial slot → before newer ≡ suc slot → serial slot < serial newer →
    chain_by chains (serial newer) ≡ chain_by chains (serial slot) → ((t : ℕ) → t ≢ slot → other t ≡ serial t) → other slot ≡ 0 → after newer ≡ before slot → ((t : ℕ) → t ≢ slot → t ≢ newer → after t ≡ before t) →
    AreChained other after chains head made
unlinked_passed serial before other after chains head made slot newer was some leads more chain same gone now links = record {
  filled = was.filled;
  apart = apart_gone serial other slot was.apart same gone;
  below = below_gone serial other slot made was.below same gone;
  firsts = λ c within.
      kept_next serial other slot chains c made (head c) same
      (λ e.
      let in_it : c ≡ chain_by chains (serial slot) = sym ((was.firsts c within).in_it slot e) in
      let to : IsNext serial chains (chain_by chains (serial slot)) made (head c) = next_by serial chains c (chain_by chains (serial slot)) made made (head c) (head c) in_it refl refl (was.firsts c within) in
      one_link serial chains (chain_by chains (serial slot)) (serial newer) made slot newer (before newer) (head c) past to leads e refl (was.below newer) chain)
      (λ above below is. omega (arith, gone, above)) (was.firsts c within);
  befores = λ t live. by_slot t live (λ q. let none : other t ≡ 0 = ap other q ∙ gone in omega (arith, none, live));
}
  where
    past : IsNext serial chains (chain_by chains (serial slot)) (serial newer) (before newer)
    past =
        next_by serial chains (chain_by chains (serial newer)) (chain_by chains (serial slot)) (serial newer) (serial newer) (before newer) (before newer) chain refl refl (was.befores newer (omega (arith, some, more)))

    newer_on : newer ≢ slot
    newer_on q = let equal : serial newer ≡ serial slot = ap serial q in omega (arith, equal, more)

    no_other : (t : ℕ) → t ≢ newer → (here : 0 < serial t) → before t ≢ suc slot
    no_other t differs here e =
        let next = was.befores t here in
        let in_it : chain_by chains (serial t) ≡ chain_by chains (serial slot) = sym (next.in_it slot e) in
        let to : IsNext serial chains (chain_by chains (serial slot)) (serial t) (before t) = next_by serial chains (chain_by chains (serial t)) (chain_by chains (serial slot)) (serial t) (serial t) (before t) (before t) in_it refl refl next in
        elim (cases_order (serial t) (serial newer)) [
          | inl equal ↦ differs (was.apart t newer equal here)
          | inr sides ↦
              elim sides [
                | inl less ↦ one_link serial chains (chain_by chains (serial slot)) (serial t) (serial newer) slot t (before t) (before newer) to past e leads refl less in_it
                | inr high ↦ one_link serial chains (chain_by chains (serial slot)) (serial newer) (serial t) slot newer (before newer) (before t) past to leads e refl high chain
              ]
        ]

    by_slot : (t : ℕ) → 0 < other t → t ≢ slot → IsNext other chains (chain_by chains (other t)) (other t) (after t)
    by_slot t live differs =
        let here : 0 < serial t = omega (arith, same t differs, live) in
        elim (cases_eq t newer) [
          | inl q ↦
              let joined : IsNext other chains (chain_by chains (serial slot)) (serial newer) (before slot) = joined_next serial other slot chains (chain_by chains (serial slot)) (serial newer) (before newer) (before slot) was.apart same gone some leads past (was.befores slot some) in
              let is : other t ≡ serial newer = same t differs ∙ ap serial q in
              next_by other chains (chain_by chains (serial slot)) (chain_by chains (other t)) (serial newer) (other t) (before slot) (after t) (sym (ap (chain_by chains) is ∙ chain)) (sym is) (sym (ap after q ∙ now)) joined
          | inr another ↦
              next_by other chains (chain_by chains (serial t)) (chain_by chains (other t)) (serial t) (other t) (before t) (after t) (ap (chain_by chains) (sym (same t differs))) (sym (same t differs)) (sym (links t differs another))
              (kept_next serial other slot chains (chain_by chains (serial t)) (serial t) (before t) same (no_other t another here) (λ above below is. omega (arith, gone, above)) (was.befores t here))
        ]

-- an object of a greater serial comes to the head of its chain
pub added : (serial before other after : ℕ → ℕ) (chains : ℕ) (head head' : ℕ → ℕ) (made slot : ℕ) → AreChained serial before chains head made → serial slot ≡ 0 → other slot ≡ made → ((t : ℕ) → t ≢ slot → other t ≡ serial t) →
    after slot ≡ head (chain_by chains made) → ((t : ℕ) → t ≢ slot → after t ≡ before t) → head' (chain_by chains made) ≡ suc slot → ((c : ℕ) → c ≢ chain_by chains made → head' c ≡ head c) → chain_by chains made < chains →
    AreChained other after chains head' (made + 1)
added serial before other after chains head head' made slot was free there same link links now heads inside = record {
  filled = was.filled;
  apart = λ s t e some. apart_at s t e some;
  below = λ t.
      elim (cases_eq t slot) [
        | inl q ↦
            let here : other t ≡ made = ap other q ∙ there in
            omega (arith, here)
        | inr differs ↦ omega (arith, same t differs, was.below t)
      ];
  firsts = λ c within.
      elim (cases_eq c (chain_by chains made)) [
        | inl q ↦ next_by other chains (chain_by chains made) c (made + 1) (made + 1) (suc slot) (head' c) (sym q) refl (sym (ap head' q ∙ now)) newest
        | inr differs ↦ next_by other chains c c (made + 1) (made + 1) (head c) (head' c) refl refl (sym (heads c differs)) (raised c differs (kept c made (head c) (omega arith) (was.firsts c within)))
      ];
  befores = λ t live.
      elim (cases_eq t slot) [
        | inl q ↦
            let is : other t ≡ made = ap other q ∙ there in
            next_by other chains (chain_by chains made) (chain_by chains (other t)) made (other t) (head (chain_by chains made)) (after t) (ap (chain_by chains) (sym is)) (sym is) (sym (ap after q ∙ link))
            (kept (chain_by chains made) made (head (chain_by chains made)) (omega arith) (was.firsts (chain_by chains made) inside))
        | inr differs ↦
            let here : 0 < serial t = omega (arith, same t differs, live) in
            next_by other chains (chain_by chains (serial t)) (chain_by chains (other t)) (serial t) (other t) (before t) (after t) (ap (chain_by chains) (sym (same t differs))) (sym (same t differs)) (sym (links t differs))
            (kept (chain_by chains (serial t)) (serial t) (before t) (omega (arith, was.below t)) (was.befores t here))
      ];
}
  where
    kept : (c limit link : ℕ) → limit ≤ made → IsNext serial chains c limit link → IsNext other chains c limit link
    kept c limit link low next =
        kept_next serial other slot chains c limit link same (λ e. let live : 0 < serial slot = next.live slot e in omega (arith, live, free)) (λ above below is. omega (arith, there, below, low)) next

    raised : (c : ℕ) → c ≢ chain_by chains made → IsNext other chains c made (head c) → IsNext other chains c (made + 1) (head c)
    raised c apart next = record {
      live = next.live;
      in_it = next.in_it;
      low = omega (arith, next.low);
      skips = λ t above below is.
          elim (cases_eq t slot) [
            | inl q ↦ apart (sym is ∙ ap (chain_by chains) (ap other q ∙ there))
            | inr differs ↦ next.skips t above (omega (arith, same t differs, was.below t)) is
          ];
    }

    newest : IsNext other chains (chain_by chains made) (made + 1) (suc slot)
    newest = record {
      live = λ t e.
          let one : t ≡ slot = omega (arith, e) in
          let here : other t ≡ made = ap other one ∙ there in
          omega (arith, here, was.below slot);
      in_it = λ t e.
          let one : t ≡ slot = omega (arith, e) in
          ap (chain_by chains) (ap other one ∙ there);
      low = omega (arith, there);
      skips = λ t above below is. omega (arith, there, above, below);
    }

    apart_at : (s t : ℕ) → other s ≡ other t → 0 < other s → s ≡ t
    apart_at s t e some =
        elim (cases_eq s slot) [
          | inl p ↦
              elim (cases_eq t slot) [
                | inl q ↦ p ∙ sym q
                | inr q ↦
                    let here : other s ≡ made = ap other p ∙ there in
                    absurd (omega (arith, here, e, same t q, was.below t))
              ]
          | inr p ↦
              elim (cases_eq t slot) [
                | inl q ↦
                    let here : other t ≡ made = ap other q ∙ there in
                    absurd (omega (arith, here, e, same s p, was.below s))
                | inr q ↦ was.apart s t (sym (same s p) ∙ e ∙ same t q) (omega (arith, same s p, some))
              ]
        ]
