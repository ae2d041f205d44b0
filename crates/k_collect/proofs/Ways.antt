-- A way into a shared heap, by the heap's segment.
use Rattle.std.proofs.Common.{◌≡◌, ◌+◌, ◌-◌, ◌==◌, ◌||◌, nat_le, Bool, true, false, cond, ℕ, refl, sym, ap, ap₂, ◌∙◌, List, [], ◌∷◌, Option, Some, None, IsFalse, arith, eqb-true, eq-eqb, inl, inr, leb-false}
use Rattle.std.specs.List.{list_any}
use Rattle.std.proofs.lemmas.Bool.{false≢true, or_cases, or_left, or_right}
use Rattle.k_types.specs.declared.names.Heap.TheVariants.{Kernel}
use Rattle.k_types.specs.declared.names.Name.{Name}
use Rattle.k_types.specs.declared.names.Phase.{Phase}
use Rattle.k_types.specs.Agree.{BookValue, CellValue}
use Rattle.k_types.specs.Names.{among, heap_eq, name_among, name_eq}
use Rattle.k_types.specs.Owners.{is_absorbed, owner_of, owner_of_process, owner_of_segment, owner_of_shared, phase_of, shared, user}
use Rattle.k_types.specs.Replies.{is_populating}
use Rattle.k_types.specs.State.{State}
use Rattle.k_types.specs.Trace.{Trace, process_count}
use Rattle.k_types.proofs.Lists.{any_same}
use Rattle.k_types.proofs.NameTests.{heap_eq_refl, name_eq_refl}
use Rattle.k_types.proofs.Tests.{same_test}
use Rattle.k_laws.proofs.OwnerOf.{owner_shared}
use Rattle.k_agree.specs.Ending.{keeps_way, swept}
use Rattle.k_laws.specs.BookChanges.{leads_into, registers_in}
use Rattle.k_collect.specs.Unsharing.{has_way_by, lies_in}
use Rattle.k_agree.proofs.Shared.{among_any}

-- a segment that the shared heap owns is the heap's own
shared_segment : (procs : ℕ) (ended : List ℕ) (phases : List Phase) (seg t : ℕ) → heap_eq (owner_of_segment procs ended phases seg) (shared t) ≡ true → seg ≡ 1 + procs + t
unfolding owner_of_segment
shared_segment procs ended phases seg t e = go (seg == 0) (nat_le seg procs) refl refl e
  where
    user_not : (b : Bool) (q : ℕ) → heap_eq (cond b Kernel (user q)) (shared t) ≡ true → ⊥
    user_not true q is = false≢true is
    user_not false q is = false≢true is

    shared_is : (b : Bool) (s : ℕ) → heap_eq (cond b Kernel (shared s)) (shared t) ≡ true → s ≡ t
    shared_is true s is = absurd (false≢true is)
    shared_is false s is = eqb-true s t is

    go : (a b : Bool) → (seg == 0) ≡ a → nat_le seg procs ≡ b →
        heap_eq (cond a Kernel (cond b (owner_of_process ended (seg - 1)) (owner_of_shared phases (seg - 1 - procs)))) (shared t) ≡ true → seg ≡ 1 + procs + t
    go true b zero low is = absurd (false≢true is)
    go false true some low is = absurd (user_not (among (seg - 1) ended) (seg - 1) is)
    go false false some high is =
        let number = shared_is (is_absorbed (phase_of phases (seg - 1 - procs))) (seg - 1 - procs) is in
        let above = leb-false seg procs high in
        omega (arith, number, above)

-- names of which some passes the test have one that does
some_at_name : (g : Name → Bool) (xs : List Name) → list_any g xs ≡ true → (n : Name) × (name_among n xs ≡ true) × (g n ≡ true)
some_at_name g [] t = absurd (false≢true t)
some_at_name g (x ∷ xs) t = elim (or_cases (g x) (list_any g xs) t) [
  | inl here ↦ (x, or_left (name_eq x x) (name_among x xs) (name_eq_refl x), here)
  | inr there ↦ let rest = some_at_name g xs there in (rest.0, or_right (name_eq x rest.0) (name_among rest.0 xs) rest.1, rest.2)
]

-- lists of the same names pass a test alike
pub any_members : (g : Name → Bool) (xs ys : List Name) → ((n : Name) → name_among n xs ≡ name_among n ys) → list_any g xs ≡ list_any g ys
any_members g xs ys same = same_test (list_any g xs) (list_any g ys) (λ t. along xs ys (λ n there. sym (same n) ∙ there) t) (λ t. along ys xs (λ n there. same n ∙ there) t)
  where
    along : (us vs : List Name) → ((n : Name) → name_among n us ≡ true → name_among n vs ≡ true) → list_any g us ≡ true → list_any g vs ≡ true
    along us vs carry t = let n = some_at_name g us t in among_any g vs n.0 (carry n.0 n.1) n.2

module _ (trace : Trace) (st : State) (t : ℕ) (stands : IsFalse (is_absorbed (phase_of st.phases t))) where
  into_heap : (seg : ℕ) → (seg == 1 + process_count trace + t) ≡ heap_eq (owner_of trace st seg) (shared t)
  into_heap seg = same_test (seg == 1 + process_count trace + t) (heap_eq (owner_of trace st seg) (shared t))
      (λ is. ap (λ k. heap_eq (owner_of trace st k) (shared t)) (eqb-true seg (1 + process_count trace + t) is) ∙ ap (λ h. heap_eq h (shared t)) (owner_shared trace st t stands) ∙ heap_eq_refl (shared t))
      (λ is. eq-eqb seg (1 + process_count trace + t) (shared_segment (process_count trace) st.ended st.phases seg t is))

  reference_into : (r : Option Name) → lies_in (1 + process_count trace + t) r ≡ leads_into (owner_of trace st) t r
  reference_into None = refl
  reference_into (Some n) = into_heap n.seg.0

  pub way_kept : (v w : CellValue) (b : BookValue) (p : ℕ) → w.process ≡ v.process → ((n : Name) → name_among n w.exits ≡ name_among n (swept v).exits) →
      has_way_by w b p (1 + process_count trace + t) t ≡ keeps_way (owner_of trace st) b v p t
  way_kept v w b p process exits =
      ap₂ (λ x y. x || y || is_populating (phase_of b.phases t) p)
      (ap (λ q. list_any (lies_in (1 + process_count trace + t)) (registers_in q)) process
      ∙ any_same (lies_in (1 + process_count trace + t)) (leads_into (owner_of trace st) t) reference_into (registers_in v.process))
      (any_members (λ n. n.seg.0 == 1 + process_count trace + t) w.exits (swept v).exits exits
      ∙ any_same (λ (n : Name). n.seg.0 == 1 + process_count trace + t) (λ n. heap_eq (owner_of trace st n.seg.0) (shared t)) (λ n. into_heap n.seg.0) (swept v).exits)
