-- Names on chains: one is found along its chain, and one more is put at the end of it.
use Rattle.std.proofs.Common.{◌≡◌, ◌≢◌, ◌∙◌, ℕ, ◌+◌, ◌-◌, ◌<◌, ◌≤◌, true, false, List, [], ◌∷◌, ◌++◌, length, get_or, set, replicate, Some, None, refl, sym, ap, subst, inl, inr, arith}
use Rattle.std.proofs.lemmas.Bool.{cases_lt, cases_eq, false_from_ne_true}
use Rattle.std.proofs.lemmas.List.{get_or_append_left, get_or-set_same, get_or-set_other, get_or-replicate, length-append, length-map, map-append, get_or_default}
use Rattle.std.proofs.Math.Seq.{get_or-append_seam}
use Rattle.std.proofs.lemmas.List.Folds.{list_any_none, list_any_at}
use Rattle.std.proofs.lemmas.Slice.Eq.{bytes_eq-Decides}
use Rattle.std.specs.Str.{bytes_eq}
use Rattle.k_words.specs.declared.name_list.Declared.{Declared}
use Rattle.k_words.specs.declared.name_list.TheConstants.{CHAINS}
use Rattle.k_words.specs.Words.{Text, word_at}
use Rattle.k_words.specs.Names.{declares, numbered}
use Rattle.k_words.specs.Chained.{texts, befores, chain_of, IsLast, AreChained}
use Rattle.k_words.proofs.Again.{number_of-at, declares-at}

-- no name has no chain
pub none_chained : AreChained [] [] (replicate CHAINS 0)
none_chained = record {
  apart = λ i k below lt. absurd (omega arith);
  last = λ c lt. subst (λ (link : ℕ). IsLast [] c 0 link) (sym (get_or-replicate CHAINS c 0 0 lt)) (record {
    within = omega arith;
    on = λ some. absurd (omega arith);
    last = λ k below e. absurd (omega arith);
  });
  before = λ i lt. absurd (omega arith);
}

-- the name, if it is one of these, is on the way from the link
pub record IsAhead (names : List Text) (name : Text) (link : ℕ) : Type 0 where
  pub within : link ≤ length names
  pub on : 0 < link → chain_of (word_at names (link - 1)) ≡ chain_of name
  pub last : (k : ℕ) → k < length names → word_at names k ≡ name → k < link

pub ahead_first : (names : List Text) (links heads : List ℕ) (name : Text) (c link : ℕ) → AreChained names links heads → c ≡ chain_of name → c < CHAINS → link ≡ get_or heads c 0 → IsAhead names name link
ahead_first names links heads name c link all e lt is =
    let first = subst (λ (l : ℕ). IsLast names c (length names) l) (sym is) (all.last c lt) in
    record { within = first.within; on = λ some. first.on some ∙ e; last = λ k below same. first.last k below (ap chain_of same ∙ sym e) }

pub ahead_next : (names : List Text) (links heads : List ℕ) (name : Text) (link next : ℕ) → AreChained names links heads → IsAhead names name link → 0 < link → next ≡ get_or links (link - 1) 0
    → word_at names (link - 1) ≢ name → IsAhead names name next
ahead_next names links heads name link next all here some is other =
    let low : link ≤ length names = here.within in
    let lt : link - 1 < length names = omega arith in
    let before = subst (λ (l : ℕ). IsLast names (chain_of (word_at names (link - 1))) (link - 1) l) (sym is) (all.before (link - 1) lt) in
    record {
      within = omega (arith, before.within);
      on = λ more. before.on more ∙ here.on some;
      last = λ k below same.
          let not_here : k ≢ link - 1 = λ e. other (ap (λ (j : ℕ). word_at names j) (sym e) ∙ same) in
          let up_to : k < link = here.last k below same in
          before.last k (omega arith) (ap chain_of same ∙ sym (here.on some));
    }

-- the next link is smaller
pub next_smaller : (names : List Text) (links heads : List ℕ) (name : Text) (link next : ℕ) → AreChained names links heads → IsAhead names name link → 0 < link → next ≡ get_or links (link - 1) 0 → next < link
next_smaller names links heads name link next all here some is =
    let low : link ≤ length names = here.within in
    let lt : link - 1 < length names = omega arith in
    omega (arith, is, (all.before (link - 1) lt).within)

-- what the walk finds
pub not_found : (names : List Text) (name : Text) (link : ℕ) → IsAhead names name link → link ≡ 0 → declares names name ≡ false
not_found names name link here end =
    list_any_none (bytes_eq name) names (λ k d lt. false_from_ne_true _ (λ e.
    let same : word_at names k ≡ name = sym (get_or_default names k d [] lt) ∙ sym ((bytes_eq-Decides name (get_or names k d)).0 e) in
    let below : k < link = here.last k lt same in
    absurd (omega arith)))

pub numbered_none : (names : List Text) (name : Text) → declares names name ≡ false → None ≡ numbered names name
numbered_none names name h = rw h refl

pub numbered_at : (names : List Text) (links heads : List ℕ) (name : Text) (i : ℕ) → AreChained names links heads → i < length names → word_at names i ≡ name → Some i ≡ numbered names name
numbered_at names links heads name i all lt same =
    subst (λ (w : Text). Some i ≡ numbered names w) same (rw (declares-at names i lt, number_of-at names i all.apart lt) refl)

-- one more name
stays : (names : List Text) (name : Text) (c n link : ℕ) → n ≤ length names → IsLast names c n link → IsLast (names ++ name ∷ []) c n link
stays names name c n link le here = record {
  within = here.within;
  on = λ some. let low : link ≤ n = here.within in ap chain_of (get_or_append_left names (name ∷ []) [] (link - 1) (omega arith)) ∙ here.on some;
  last = λ k below e. here.last k below (sym (ap chain_of (get_or_append_left names (name ∷ []) [] k (omega arith))) ∙ e);
}

at_end : (names : List Text) (name : Text) (k : ℕ) → k ≡ length names → word_at (names ++ name ∷ []) k ≡ name
at_end names name k e = ap (λ (j : ℕ). word_at (names ++ name ∷ []) j) e ∙ get_or-append_seam names name [] []

-- on another chain the last name is the same one
others : (names : List Text) (name : Text) (c link : ℕ) → chain_of name ≢ c → IsLast names c (length names) link → IsLast (names ++ name ∷ []) c (length names + 1) link
others names name c link differs here =
    let old = stays names name c (length names) link (omega arith) here in
    record {
      within = omega (arith, here.within);
      on = old.on;
      last = λ k below e. elim (cases_lt k (length names)) [
        | inl lt ↦ old.last k lt e
        | inr le ↦ absurd (differs (sym (ap chain_of (at_end names name k (omega arith))) ∙ e))
      ];
    }

-- on its own chain it is the last one
itself : (names : List Text) (name : Text) (c link : ℕ) → chain_of name ≡ c → link ≡ length names + 1 → IsLast (names ++ name ∷ []) c (length names + 1) link
itself names name c link own e = record {
  within = omega arith;
  on = λ some. ap chain_of (at_end names name (link - 1) (omega arith)) ∙ own;
  last = λ k below h. omega arith;
}

pub one_more : (names : List Text) (links heads : List ℕ) (name : Text) (c before link : ℕ) → AreChained names links heads → length links ≡ length names → length heads ≡ CHAINS
    → declares names name ≡ false → c ≡ chain_of name → c < CHAINS → before ≡ get_or heads c 0 → link ≡ length names + 1
    → AreChained (names ++ name ∷ []) (links ++ before ∷ []) (set heads c link)
one_more names links heads name c before link all as_many full fresh own lt was is = record { apart = apart; last = last; before = befores_of }
  where
    long : length (names ++ name ∷ []) ≡ length names + 1
    long = length-append names (name ∷ [])

    apart : (i k : ℕ) → k < i → i < length (names ++ name ∷ []) → word_at (names ++ name ∷ []) i ≢ word_at (names ++ name ∷ []) k
    apart i k below within same =
        let first = get_or_append_left names (name ∷ []) [] k (omega (arith, long)) in
        elim (cases_lt i (length names)) [
          | inl lt ↦ all.apart i k below lt (sym (get_or_append_left names (name ∷ []) [] i lt) ∙ same ∙ first)
          | inr le ↦
              let e : name ≡ word_at names k = sym (at_end names name i (omega (arith, long))) ∙ same ∙ first in
              let found : declares names name ≡ true = list_any_at (bytes_eq name) names k [] (omega (arith, long)) ((bytes_eq-Decides name (word_at names k)).1 e) in
              let f : true ≡ false = sym found ∙ fresh in cc
        ]

    last : (d : ℕ) → d < CHAINS → IsLast (names ++ name ∷ []) d (length (names ++ name ∷ [])) (get_or (set heads c link) d 0)
    last d below = subst (λ (n : ℕ). IsLast (names ++ name ∷ []) d n (get_or (set heads c link) d 0)) (sym long) (elim (cases_eq d c) [
      | inl e ↦ itself names name d (get_or (set heads c link) d 0) (sym own ∙ sym e) (ap (λ (j : ℕ). get_or (set heads c link) j 0) e ∙ get_or-set_same heads c link 0 (omega arith) ∙ is)
      | inr ne ↦ subst (λ (l : ℕ). IsLast (names ++ name ∷ []) d (length names + 1) l) (sym (get_or-set_other heads c d link 0 ne))
          (others names name d (get_or heads d 0) (λ e. ne (sym e ∙ sym own)) (all.last d below))
    ])

    befores_of : (i : ℕ) → i < length (names ++ name ∷ []) → IsLast (names ++ name ∷ []) (chain_of (word_at (names ++ name ∷ []) i)) i (get_or (links ++ before ∷ []) i 0)
    befores_of i within = elim (cases_lt i (length names)) [
      | inl lt ↦ subst (λ (l : ℕ). IsLast (names ++ name ∷ []) (chain_of (word_at (names ++ name ∷ []) i)) i l) (sym (get_or_append_left links (before ∷ []) 0 i (omega arith)))
          (subst (λ (w : Text). IsLast (names ++ name ∷ []) (chain_of w) i (get_or links i 0)) (sym (get_or_append_left names (name ∷ []) [] i lt))
          (stays names name (chain_of (word_at names i)) i (get_or links i 0) (omega arith) (all.before i lt)))
      | inr le ↦
          let e : i ≡ length names = omega (arith, long) in
          let there : get_or (links ++ before ∷ []) i 0 ≡ get_or heads c 0 = ap (λ (j : ℕ). get_or (links ++ before ∷ []) j 0) (e ∙ sym as_many) ∙ get_or-append_seam links before [] 0 ∙ was in
          subst (λ (l : ℕ). IsLast (names ++ name ∷ []) (chain_of (word_at (names ++ name ∷ []) i)) i l) (sym there)
          (subst (λ (w : Text). IsLast (names ++ name ∷ []) (chain_of w) i (get_or heads c 0)) (sym (at_end names name i e))
          (subst (λ (d : ℕ). IsLast (names ++ name ∷ []) d i (get_or heads c 0)) own
          (subst (λ (n : ℕ). IsLast (names ++ name ∷ []) c n (get_or heads c 0)) (sym e)
          (stays names name c (length names) (get_or heads c 0) (omega arith) (all.last c lt)))))
    ]

-- and so for the names as they are kept
pub record IsMore (new : List Declared) (heads : List ℕ) (was : List Text) (name : Text) : Type 0 where
  pub value : texts new ≡ was ++ name ∷ []
  pub chained : AreChained (texts new) (befores new) heads

pub one_more_kept : (names new : List Declared) (heads : List ℕ) (was : List Text) (d : Declared) (name : Text) (c link : ℕ) → AreChained (texts names) (befores names) heads → length heads ≡ CHAINS
    → texts names ≡ was → declares was name ≡ false → d.name.items ≡ name → c ≡ chain_of name → c < CHAINS → d.before ≡ get_or heads c 0 → new ≡ names ++ d ∷ [] → link ≡ length new
    → IsMore new (set heads c link) was name
one_more_kept names new heads was d name c link all full view fresh is own lt last e len =
    let value : texts new ≡ texts names ++ name ∷ [] = ap texts e ∙ map-append (λ (x : Declared). x.name.items) names (d ∷ []) ∙ ap (λ (w : Text). texts names ++ w ∷ []) is in
    let links : befores new ≡ befores names ++ d.before ∷ [] = ap befores e ∙ map-append (λ (x : Declared). x.before) names (d ∷ []) in
    let many : length (texts names) ≡ length names = length-map names (λ (x : Declared). x.name.items) in
    let as_many : length (befores names) ≡ length (texts names) = length-map names (λ (x : Declared). x.before) ∙ sym many in
    let count : link ≡ length (texts names) + 1 = len ∙ ap (λ (ds : List Declared). length ds) e ∙ length-append names (d ∷ []) ∙ ap (λ (n : ℕ). n + 1) (sym many) in
    let new_name : declares (texts names) name ≡ false = ap (λ (ws : List Text). declares ws name) view ∙ fresh in
    let made = one_more (texts names) (befores names) heads name c d.before link all as_many full new_name own lt last count in
    record {
      value = value ∙ ap (λ (ws : List Text). ws ++ name ∷ []) view;
      chained = subst (λ (ws : List Text). AreChained ws (befores new) (set heads c link)) (sym value) (subst (λ (ls : List ℕ). AreChained (texts names ++ name ∷ []) ls (set heads c link)) (sym links) made);
    }
