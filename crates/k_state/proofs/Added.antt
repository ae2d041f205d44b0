-- Sums that are kept in numbers of 64 bits, as one of them grows.
use Rattle.std.proofs.Common.{◌≡◌, ℕ, suc, ◌+◌, ◌-◌, ◌<◌, ◌≤◌, ◌==◌, ◌^◌, cond, true, false, ap, ap₂, inl, inr, List, [], ◌++◌, ◌∷◌, length, filter, get_or, get_or-set_same, get_or-set_other, set, take, refl, sym, ◌∙◌, Bool, arith, eq-eqb, ne_eqb}
use Rattle.std.specs.Prelude.{min}
use Rattle.std.proofs.lemmas.Bool.{cases_eq}
use Rattle.std.proofs.lemmas.List.{take_more}
use Rattle.k_types.specs.declared.names.Heap.{Heap}
use Rattle.k_types.specs.Names.{among}
use Rattle.k_types.specs.Owners.{charge_by, shared, user}
use Rattle.k_types.specs.State.{Sharing}
use Rattle.k_types.specs.Totals.{total}
use Rattle.k_types.specs.Numbers.{numbers_below}
use Rattle.k_laws.proofs.Lists.{numbers_push}
use Rattle.k_laws.proofs.Sums.{sum-filter, total_push}
use Rattle.k_state.specs.Sums.{AreSums}

pub neither : (b : Bool) → ◌≡◌ {A = ℕ} (cond b 0 0) 0
neither true = refl
neither false = refl

-- one number grows by so much
pub sums_added : (numbers : List ℕ) (f g : ℕ → ℕ) (n k v part : ℕ) → AreSums numbers f n → k < length numbers → part ≡ min v (2 ^ 64 - 1) →
    ((m : ℕ) → m < n → g m ≡ f m + cond (k == m) v 0) → AreSums (set numbers k (min (get_or numbers k 0 + part) (2 ^ 64 - 1))) g n
sums_added numbers f g n k v part are inside is more m low =
    let sum = min (get_or numbers k 0 + part) (2 ^ 64 - 1) in
    let was = are m low in
    let grown = more m low in
    elim (cases_eq k m) [
      | inl e ↦
          let here = get_or-set_same numbers m sum 0 (omega (arith, inside, e)) in
          let at = ap (λ j. get_or (set numbers j sum) m 0) e in
          let there = ap (λ j. get_or numbers j 0) e in
          let add = ap (λ b. cond b v 0) (eq-eqb k m e) in
          omega (arith, was, grown, here, at, there, add, is)
      | inr ne ↦
          let here : get_or (set numbers k sum) m 0 ≡ get_or numbers m 0 = grind (arith, get_or-set_other) in
          let add = ap (λ b. cond b v 0) (ne_eqb k m ne) in
          omega (arith, was, grown, here, add)
    ]

-- no number grows
pub sums_same : (numbers : List ℕ) (f g : ℕ → ℕ) (n : ℕ) → AreSums numbers f n → ((m : ℕ) → m < n → g m ≡ f m) → AreSums numbers g n
sums_same numbers f g n are same m low = are m low ∙ ap (λ k. min k (2 ^ 64 - 1)) (sym (same m low))

-- one element more of a list
pub total_more : {A : Type 0} (f : A → ℕ) (p : A → Bool) (xs : List A) (i : ℕ) (x : A) → i < length xs → x ≡ get_or xs i x →
    total f (filter p (take (i + 1) xs)) ≡ total f (filter p (take i xs)) + cond (p x) (f x) 0
total_more f p xs i x inside is =
    let more : take (i + 1) xs ≡ take i xs ++ x ∷ [] = take_more xs i x inside ∙ ap (λ y. take i xs ++ y ∷ []) (sym is) in
    sum-filter p f (take (i + 1) xs)
    ∙ ap (total (λ y. cond (p y) (f y) 0)) more
    ∙ total_push (λ y. cond (p y) (f y) 0) (take i xs) x
    ∙ ap (λ n. n + cond (p x) (f x) 0) (sym (sum-filter p f (take i xs)))

-- one number more
pub numbers_total_more : (f : ℕ → ℕ) (p : ℕ → Bool) (n : ℕ) → total f (filter p (numbers_below (n + 1))) ≡ total f (filter p (numbers_below n)) + cond (p n) (f n) 0
numbers_total_more f p n =
    let one : n + 1 ≡ suc n = omega arith in
    let at : 0 + n ≡ n = omega arith in
    let more : numbers_below (n + 1) ≡ numbers_below n ++ n ∷ [] = ap numbers_below one ∙ numbers_push 0 n ∙ ap (λ k. numbers_below n ++ k ∷ []) at in
    sum-filter p f (numbers_below (n + 1))
    ∙ ap (total (λ y. cond (p y) (f y) 0)) more
    ∙ total_push (λ y. cond (p y) (f y) 0) (numbers_below n) n
    ∙ ap (λ k. k + cond (p n) (f n) 0) (sym (sum-filter p f (numbers_below n)))

module _ (bytes : Heap → ℕ) (ended : List ℕ) where
  -- what each process is charged, by one share more
  pub charge_more : (shares : List Sharing) (i : ℕ) (e : Sharing) (m : ℕ) → i < length shares → e ≡ get_or shares i e →
      charge_by bytes ended (take (i + 1) shares) m ≡ charge_by bytes ended (take i shares) m + cond (e.process == m) (cond (among e.process ended) 0 (bytes (shared e.heap))) 0
  charge_more shares i e m inside is =
      let paid : Sharing → ℕ = λ s. bytes (shared s.heap) in
      let more = total_more paid (λ (s : Sharing). s.process == m) shares i e inside is in
      elim (cases_eq e.process m) [
        | inl same ↦
            let test = eq-eqb e.process m same in
            let gone = ap (λ k. among k ended) same in
            let add = ap (λ b. cond b (bytes (shared e.heap)) 0) test in
            let adds = ap₂ (λ b g. cond b (cond g 0 (bytes (shared e.heap))) 0) test gone in
            elim (among m ended) as (λ b. among m ended ≡ b →
            cond b 0 (bytes (user m) + total paid (filter (λ (s : Sharing). s.process == m) (take (i + 1) shares)))
            ≡ cond b 0 (bytes (user m) + total paid (filter (λ (s : Sharing). s.process == m) (take i shares))) + cond (e.process == m) (cond (among e.process ended) 0 (bytes (shared e.heap))) 0) [
              | true ↦ λ g. let none = ap (λ b. cond b 0 (bytes (shared e.heap))) g in omega (arith, adds, none)
              | false ↦ λ g. let all = ap (λ b. cond b 0 (bytes (shared e.heap))) g in omega (arith, adds, all, more, add)
            ] refl
        | inr ne ↦
            let test = ne_eqb e.process m ne in
            let add = ap (λ b. cond b (bytes (shared e.heap)) 0) test in
            let adds = ap (λ b. cond b (cond (among e.process ended) 0 (bytes (shared e.heap))) 0) test in
            elim (among m ended) as (λ b.
            cond b 0 (bytes (user m) + total paid (filter (λ (s : Sharing). s.process == m) (take (i + 1) shares)))
            ≡ cond b 0 (bytes (user m) + total paid (filter (λ (s : Sharing). s.process == m) (take i shares))) + cond (e.process == m) (cond (among e.process ended) 0 (bytes (shared e.heap))) 0) [
              | true ↦ omega (arith, adds)
              | false ↦ omega (arith, adds, more, add)
            ]
      ]

  module _ (numbers : List ℕ) (n : ℕ) (shares : List Sharing) (i : ℕ) (e : Sharing) (inside : i < length shares) (is : e ≡ get_or shares i e) (are : AreSums numbers (charge_by bytes ended (take i shares)) n) where
    -- a share that its process pays for
    pub charges_paid : (part : ℕ) → e.process < length numbers → among e.process ended ≡ false → part ≡ bytes (shared e.heap) → part < 2 ^ 64 →
        AreSums (set numbers e.process (min (get_or numbers e.process 0 + part) (2 ^ 64 - 1))) (charge_by bytes ended (take (i + 1) shares)) n
    charges_paid part there lives pays small =
        sums_added numbers (charge_by bytes ended (take i shares)) (charge_by bytes ended (take (i + 1) shares)) n e.process (bytes (shared e.heap)) part are there
        (omega (arith, pays, small))
        (λ m low. charge_more shares i e m inside is ∙ ap (λ b. charge_by bytes ended (take i shares) m + cond (e.process == m) (cond b 0 (bytes (shared e.heap))) 0) lives)

    -- one of a process that has ended
    pub charges_ended : among e.process ended ≡ true → AreSums numbers (charge_by bytes ended (take (i + 1) shares)) n
    charges_ended gone =
        sums_same numbers (charge_by bytes ended (take i shares)) (charge_by bytes ended (take (i + 1) shares)) n are
        (λ m low.
        let more = charge_more shares i e m inside is in
        let none = ap (λ b. cond (e.process == m) (cond b 0 (bytes (shared e.heap))) 0) gone ∙ neither (e.process == m) in
        omega (arith, more, none))

    -- one of a process that the trace does not have
    pub charges_past : n ≤ e.process → AreSums numbers (charge_by bytes ended (take (i + 1) shares)) n
    charges_past past =
        sums_same numbers (charge_by bytes ended (take i shares)) (charge_by bytes ended (take (i + 1) shares)) n are
        (λ m low.
        let more = charge_more shares i e m inside is in
        let none = ap (λ b. cond b (cond (among e.process ended) 0 (bytes (shared e.heap))) 0) (ne_eqb e.process m (λ same. absurd (omega (arith, same, low, past)))) in
        omega (arith, more, none))

-- one number more is its sum
pub sums_next : (numbers : List ℕ) (f : ℕ → ℕ) (n : ℕ) → AreSums numbers f n → get_or numbers n 0 ≡ min (f n) (2 ^ 64 - 1) → AreSums numbers f (n + 1)
sums_next numbers f n are here k low =
    elim (cases_eq k n) [
      | inl e ↦ ap (λ j. get_or numbers j 0) e ∙ here ∙ ap (λ j. min (f j) (2 ^ 64 - 1)) (sym e)
      | inr ne ↦ are k (omega (arith, low, ne))
    ]

-- where that number is put
pub sums_put : (numbers : List ℕ) (f : ℕ → ℕ) (n b : ℕ) → b ≡ f n → b < 2 ^ 64 → n < length numbers → AreSums numbers f n → AreSums (set numbers n b) f (n + 1)
sums_put numbers f n b is small inside are =
    let here = get_or-set_same numbers n b 0 inside in
    sums_next (set numbers n b) f n
    (λ k low. let same : get_or (set numbers n b) k 0 ≡ get_or numbers k 0 = grind (arith, get_or-set_other, low) in same ∙ are k low)
    (omega (arith, here, is, small))

-- where a process that lives is charged its own bytes
pub own_lives : (bytes : Heap → ℕ) (ended numbers : List ℕ) (p b : ℕ) → among p ended ≡ false → b ≡ bytes (user p) → b < 2 ^ 64 → p < length numbers →
    AreSums numbers (charge_by bytes ended []) p → AreSums (set numbers p b) (charge_by bytes ended []) (p + 1)
own_lives bytes ended numbers p b lives is small inside are =
    let own : charge_by bytes ended [] p ≡ bytes (user p) + 0 = ap (λ g. cond g 0 (bytes (user p) + 0)) lives in
    sums_put numbers (charge_by bytes ended []) p b (omega (arith, own, is)) small inside are

-- and one that has ended is charged nothing
pub own_ended : (bytes : Heap → ℕ) (ended numbers : List ℕ) (p : ℕ) → among p ended ≡ true → get_or numbers p 0 ≡ 0 →
    AreSums numbers (charge_by bytes ended []) p → AreSums numbers (charge_by bytes ended []) (p + 1)
own_ended bytes ended numbers p gone none are =
    let own : charge_by bytes ended [] p ≡ 0 = ap (λ g. cond g 0 (bytes (user p) + 0)) gone in
    sums_next numbers (charge_by bytes ended []) p are (omega (arith, own, none))
