-- What is answered where a field is looked up once, and what that leaves of the cell.
use Rattle.std.proofs.Common.{◌≡◌, ◌+◌, ◌==◌, ℕ, nat_le, not, Bool, true, false, cond, inl, inr, refl, sym, ap, subst, ◌∙◌, List, length, get_or, slice_get, Option, Some, None, IfSome}
use Rattle.std.proofs.lemmas.Bool.{cases_lt, le-leb, lt-leb}
use Rattle.std.proofs.lemmas.Option.{slice_get-get_or, slice_get_past}
use Rattle.k_types.specs.declared.event.Fault.TheVariants.{NoField, WrongKind}
use Rattle.k_types.specs.declared.event.Reply.{Reply}
use Rattle.k_types.specs.declared.event.Reply.TheVariants.{Done, Refused, Value}
use Rattle.k_types.specs.declared.names.Name.{Name}
use Rattle.k_types.specs.Agree.{CellValue}
use Rattle.k_types.specs.Local.{is_own}
use Rattle.k_types.specs.Replies.{is_ref}
use Rattle.k_types.specs.State.{Content, Holds, Refers, fields_of, object_at}
use Rattle.k_commit.specs.k_heap.Changes.{with_field, with_put, with_stored}
use Rattle.k_commit.specs.k_heap.Heaps.{HeapRecord}
use Rattle.k_commit.specs.k_heap.Looks.{field_among, field_count_among, found_among, holds_int, holds_ref}
use Rattle.k_process.specs.Locals.{IsChanged, get_answer, int_answer, number_found, put_answer, ref_answer, store_answer, written_through}

by_place : (f : Option Content → Option Reply) → f None ≡ Some (Refused NoField) → (xs : List Content) (i : ℕ) → f (slice_get xs i) ≡ cond (nat_le (length xs) i) (Some (Refused NoField)) (f (Some (get_or xs i (Holds 0))))
by_place f none xs i =
    elim (cases_lt i (length xs)) [
      | inl within ↦
          ap f (slice_get-get_or xs i (Holds 0) within) ∙ sym (ap (λ b. cond b (Some (Refused NoField)) (f (Some (get_or xs i (Holds 0))))) (lt-leb (length xs) i within))
      | inr past ↦
          ap f (slice_get_past xs i past) ∙ none ∙ sym (ap (λ b. cond b (Some (Refused NoField)) (f (Some (get_or xs i (Holds 0))))) (le-leb (length xs) i past))
    ]

-- the field of an object of the process's own, to which the base leads
module _ (v : CellValue) (p : ℕ) (base : Option Name) (x : Name) (i : ℕ) (found : Option Content) (based : Some x ≡ base) (own : (x.seg.0 == p + 1) ≡ true) (is : found ≡ found_among v.objects x i) where
  answered : (f : Option Content → Option Reply) → f None ≡ Some (Refused NoField) → f found ≡ cond (x.seg.0 == p + 1) (cond (nat_le (field_count_among v.objects x) i) (Some (Refused NoField)) (f (Some (field_among v.objects x i)))) None
  answered f none =
      ap f is
      ∙ by_place f none (fields_of (object_at v.objects x)) i
      ∙ sym (ap (λ b. cond b (cond (nat_le (field_count_among v.objects x) i) (Some (Refused NoField)) (f (Some (field_among v.objects x i)))) None) own)

  pub store_answered : (value : Option Name) (answer : Option Reply) → answer ≡ cond (is_own p value) (Some Done) None → ref_answer found answer ≡ store_answer v p base i value
  store_answered value answer e =
      ap (ref_answer found) e
      ∙ answered (λ o. ref_answer o (cond (is_own p value) (Some Done) None)) refl
      ∙ ap (λ b. store_answer v p b i value) based

  pub put_answered : int_answer found (Some Done) ≡ put_answer v p base i
  put_answered = answered (λ o. int_answer o (Some Done)) refl ∙ ap (λ b. put_answer v p b i) based

  pub get_answered : int_answer found (Some (Value (number_found found))) ≡ get_answer v p base i
  get_answered = answered (λ o. int_answer o (Some (Value (number_found o)))) refl ∙ ap (λ b. get_answer v p b i) based

-- a field is written where the answer is no fault
of_kind : (b : Bool) (cell new : HeapRecord) (changed : CellValue) → new ≡ record cell { value = cond b changed cell.value } → IfSome (cond b (Some Done) (Some (Refused WrongKind))) (λ said. IsChanged cell new said changed)
of_kind true cell new changed e = e
of_kind false cell new changed e = e

stored_here : (found : Option Content) (cell new : HeapRecord) (changed : CellValue) → new ≡ record cell { value = cond (holds_ref found) changed cell.value } → IfSome (ref_answer found (Some Done)) (λ said. IsChanged cell new said changed)
stored_here None cell new changed e = e
stored_here (Some held) cell new changed e = of_kind (is_ref held) cell new changed e

put_here : (found : Option Content) (cell new : HeapRecord) (changed : CellValue) → new ≡ record cell { value = cond (holds_int found) changed cell.value } → IfSome (int_answer found (Some Done)) (λ said. IsChanged cell new said changed)
put_here None cell new changed e = e
put_here (Some held) cell new changed e = of_kind (not (is_ref held)) cell new changed e

module _ (cell new : HeapRecord) (base : Option Name) (x : Name) (i : ℕ) (found : Option Content) (based : Some x ≡ base) (is : found ≡ found_among cell.value.objects x i) where
  pub stored_changed : (target : Option Name) → new ≡ record cell { value = with_stored x i target cell.value } → IfSome (ref_answer found (Some Done)) (λ said. IsChanged cell new said (written_through base i (Refers target) cell.value))
  stored_changed target e =
      subst (λ b. IfSome (ref_answer found (Some Done)) (λ said. IsChanged cell new said (written_through b i (Refers target) cell.value))) based
      (stored_here found cell new (with_field x i (Refers target) cell.value) (e ∙ ap (λ o. record cell { value = cond (holds_ref o) (with_field x i (Refers target) cell.value) cell.value }) (sym is)))

  pub put_changed : (number : ℕ) → new ≡ record cell { value = with_put x i number cell.value } → IfSome (int_answer found (Some Done)) (λ said. IsChanged cell new said (written_through base i (Holds number) cell.value))
  put_changed number e =
      subst (λ b. IfSome (int_answer found (Some Done)) (λ said. IsChanged cell new said (written_through b i (Holds number) cell.value))) based
      (put_here found cell new (with_field x i (Holds number) cell.value) (e ∙ ap (λ o. record cell { value = cond (holds_int o) (with_field x i (Holds number) cell.value) cell.value }) (sym is)))
