-- What is in a list of exit items, shares or scans after some went.
use Rattle.std.proofs.Common.{◌≡◌, ℕ, ◌≤◌, ◌==◌, ◌&&◌, not, Bool, true, false, cond, refl, ap, ap₂, ◌∙◌, inl, inr, List, [], ◌∷◌, filter, Option, None, arith, le_refl, eqb-true}
use Rattle.std.specs.List.{list_any}
use Rattle.std.proofs.lemmas.Bool.{and_parts, cases_Bool, and_left}
use Rattle.k_types.specs.Totals.{total}
use Rattle.k_types.specs.declared.names.Name.{Name}
use Rattle.k_types.specs.declared.names.Heap.{Heap}
use Rattle.k_types.specs.Names.{name_eq, heap_eq}
use Rattle.k_types.specs.State.{ExitItem, Sharing, Scan, has_exit, has_share, scan_of}
use Rattle.k_types.specs.Sound.{AreDistinctExits, AreDistinctShares, AreDistinctScans}
use Rattle.k_types.proofs.NameTests.{name_eq-true, heap_eq-true}

pub exit_is : (e : ExitItem) (h : Heap) (n : Name) → (heap_eq e.heap h && name_eq e.target n) ≡ true → e ≡ record { heap = h; target = n }
exit_is e h n t =
    let parts = and_parts (heap_eq e.heap h) (name_eq e.target n) t in
    ap₂ (λ heap target. let x : ExitItem = record { heap = heap; target = target } in x) (heap_eq-true e.heap h parts.0) (name_eq-true e.target n parts.1)

share_is : (e : Sharing) (p s : ℕ) → ((e.process == p) && (e.heap == s)) ≡ true → e ≡ record { process = p; heap = s }
share_is e p s t =
    let parts = and_parts (e.process == p) (e.heap == s) t in
    ap₂ (λ process heap. let x : Sharing = record { process = process; heap = heap } in x) (eqb-true e.process p parts.0) (eqb-true e.heap s parts.1)

-- a test that only one element can pass, after a filter
kept_step : {A : Type 0} (p q : A → Bool) (a x : A) (xs : List A) → (p x ≡ true → x ≡ a) →
    list_any p (filter q xs) ≡ (list_any p xs && q a) → list_any p (filter q (x ∷ xs)) ≡ (list_any p (x ∷ xs) && q a)
kept_step p q a x xs one ih =
    elim (cases_Bool (p x)) [
      | inl t ↦ let same = ap q (one t) in grind (arith, ih, t, same)
      | inr f ↦ grind (arith, ih, f)
    ]

pub any-kept : {A : Type 0} (p q : A → Bool) (a : A) → ((x : A) → p x ≡ true → x ≡ a) → (xs : List A) → list_any p (filter q xs) ≡ (list_any p xs && q a)
any-kept p q a one [] = refl
any-kept p q a one (x ∷ xs) = kept_step p q a x xs (one x) (any-kept p q a one xs)

pub has_exit-kept : (q : ExitItem → Bool) (exits : List ExitItem) (h : Heap) (n : Name) → has_exit (filter q exits) h n ≡ (has_exit exits h n && q (record { heap = h; target = n }))
has_exit-kept q exits h n = any-kept (λ e. heap_eq e.heap h && name_eq e.target n) q (record { heap = h; target = n }) (λ e t. exit_is e h n t) exits

pub has_share-kept : (q : Sharing → Bool) (shares : List Sharing) (p s : ℕ) → has_share (filter q shares) p s ≡ (has_share shares p s && q (record { process = p; heap = s }))
has_share-kept q shares p s = any-kept (λ e. (e.process == p) && (e.heap == s)) q (record { process = p; heap = s }) (λ e t. share_is e p s t) shares

-- no more are in a list after some went
pub any-fewer : {A : Type 0} (p q : A → Bool) (xs : List A) → list_any p (filter q xs) ≡ true → list_any p xs ≡ true
any-fewer p q [] h = h
any-fewer p q (x ∷ xs) h = grind (arith, any-fewer p q xs)

pub distinct_exits-kept : (q : ExitItem → Bool) (exits : List ExitItem) → AreDistinctExits exits → AreDistinctExits (filter q exits)
distinct_exits-kept q [] d = tt
distinct_exits-kept q (e ∷ exits) d =
    elim (q e) as (λ b. AreDistinctExits (cond b (e ∷ filter q exits) (filter q exits))) [
      | true ↦ (has_exit-kept q exits e.heap e.target ∙ and_left _ _ d.0, distinct_exits-kept q exits d.1)
      | false ↦ distinct_exits-kept q exits d.1
    ]

pub distinct_shares-kept : (q : Sharing → Bool) (shares : List Sharing) → AreDistinctShares shares → AreDistinctShares (filter q shares)
distinct_shares-kept q [] d = tt
distinct_shares-kept q (e ∷ shares) d =
    elim (q e) as (λ b. AreDistinctShares (cond b (e ∷ filter q shares) (filter q shares))) [
      | true ↦ (has_share-kept q shares e.process e.heap ∙ and_left _ _ d.0, distinct_shares-kept q shares d.1)
      | false ↦ distinct_shares-kept q shares d.1
    ]

scan_closed_step : (h g : Heap) (s : Scan) (scans : List Scan) →
    scan_of (filter (λ s. not (heap_eq s.heap h)) scans) g ≡ cond (heap_eq g h) None (scan_of scans g) →
    scan_of (filter (λ s. not (heap_eq s.heap h)) (s ∷ scans)) g ≡ cond (heap_eq g h) None (scan_of (s ∷ scans) g)
scan_closed_step h g s scans ih =
    elim (cases_Bool (heap_eq s.heap g)) [
      | inl t ↦ let same = ap (λ k. heap_eq k h) (heap_eq-true s.heap g t) in grind (arith, ih, t, same)
      | inr f ↦ grind (arith, ih, f)
    ]

pub scan_closed : (h g : Heap) (scans : List Scan) → scan_of (filter (λ s. not (heap_eq s.heap h)) scans) g ≡ cond (heap_eq g h) None (scan_of scans g)
scan_closed h g [] = elim (heap_eq g h) as (λ b. ◌≡◌ {A = Option (List Name)} None (cond b None None)) [ true ↦ refl | false ↦ refl ]
scan_closed h g (s ∷ scans) = scan_closed_step h g s scans (scan_closed h g scans)

pub distinct_scans-closed : (h : Heap) (scans : List Scan) → AreDistinctScans scans → AreDistinctScans (filter (λ s. not (heap_eq s.heap h)) scans)
distinct_scans-closed h [] d = tt
distinct_scans-closed h (s ∷ scans) d =
    elim (not (heap_eq s.heap h)) as (λ b. AreDistinctScans (cond b (s ∷ filter (λ s. not (heap_eq s.heap h)) scans) (filter (λ s. not (heap_eq s.heap h)) scans))) [
      | true ↦ (scan_closed h s.heap scans ∙ elim (heap_eq s.heap h) as (λ b. cond b None (scan_of scans s.heap) ≡ None) [ true ↦ refl | false ↦ d.0 ], distinct_scans-closed h scans d.1)
      | false ↦ distinct_scans-closed h scans d.1
    ]

sum-fewer_step : {A : Type 0} (f g : A → ℕ) (q : A → Bool) (x : A) (xs : List A) → f x ≤ g x → total f (filter q xs) ≤ total g xs → total f (filter q (x ∷ xs)) ≤ total g (x ∷ xs)
sum-fewer_step f g q x xs less ih =
    elim (q x) as (λ b. total f (cond b (x ∷ filter q xs) (filter q xs)) ≤ total g (x ∷ xs)) [
      | true ↦ omega arith
      | false ↦ omega arith
    ]

-- a sum of less over fewer is less
pub sum-fewer : {A : Type 0} (f g : A → ℕ) (q : A → Bool) → ((x : A) → f x ≤ g x) → (xs : List A) → total f (filter q xs) ≤ total g xs
sum-fewer f g q less [] = le_refl 0
sum-fewer f g q less (x ∷ xs) = sum-fewer_step f g q x xs (less x) (sum-fewer f g q less xs)

pub filter_swap : {A : Type 0} (p q : A → Bool) (xs : List A) → filter p (filter q xs) ≡ filter q (filter p xs)
filter_swap p q [] = refl
filter_swap p q (x ∷ xs) = grind (arith, filter_swap p q xs)
