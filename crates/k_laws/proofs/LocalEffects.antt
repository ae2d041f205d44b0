-- A local operation changes its own cell alike wherever the cell is the same.
use Rattle.std.proofs.Common.{◌≡◌, ℕ, zero, suc, ◌+◌, ◌<◌, ◌==◌, ◌||◌, not, refl, sym, ap, ap₂, ◌∙◌, List, [], ◌∷◌, length, Option, Some, None, is_some, eqb-true, inl, inr, IsTrue, IsFalse, get_or, set, slice_index_or, get_or-set_same, nat_le}
use Rattle.std.proofs.lemmas.Bool.{false≢true, or_cases, and_parts}
use Rattle.k_types.specs.declared.names.Name.{Name}
use Rattle.k_types.specs.declared.op.Op.{Op}
use Rattle.k_types.specs.declared.op.Op.TheVariants.{Store, Load, Move, Clear, Put, Get}
use Rattle.k_types.specs.declared.event.Fault.TheVariants.{WrongKind, Frozen, Segv}
use Rattle.k_types.specs.Names.{heap_eq, among}
use Rattle.k_types.specs.Trace.{Trace, process_count}
use Rattle.k_types.specs.State.{State, Content, Refers, Holds, register}
use Rattle.k_types.specs.Owners.{owner_of, user}
use Rattle.k_types.specs.Updates.{count_done, set_register, write}
use Rattle.k_types.specs.Replies.{fault_where, first_fault, faults, access_faults, at_base, field_at, field_count, is_ref, reference_from, passes_barrier, is_frozen_heap, store_faults}
use Rattle.k_types.specs.Effects.{effect, after_store, after_put, with_exit_of_store}
use Rattle.k_types.specs.Cells.{part}
use Rattle.k_laws.specs.PartUpdates.{with_register, with_done, with_written}
use Rattle.k_types.specs.Local.{is_local, is_own, is_local_store}
use Rattle.k_laws.specs.Alike.{Alike}
use Rattle.k_types.proofs.NameTests.{heap_eq_refl}
use Rattle.k_types.proofs.Objects.{kept-written}
use Rattle.k_laws.proofs.OwnerOf.{owner_user}
use Rattle.k_laws.proofs.LocalSteps.{lives_too, same_register, own_st, own_su, loaded_same, own_faults, at_fault}

-- a store is refused where the access or the kind of the field is at fault
pub no_store : (trace : Trace) (st : State) (p : ℕ) (x : Name) (i : ℕ) (v : Option Name) → owner_of trace st x.seg.0 ≡ user p → IsTrue (nat_le (field_count st x) i || not (is_ref (field_at st x i))) → first_fault (store_faults trace st p i v x) ≡ None → ⊥
no_store trace st p x i v own fault e =
    let some = own_faults trace st p x i own fault in
    let same = at_fault (access_faults trace st p x i) (fault_where (not (is_ref (field_at st x i))) WrongKind) [] (fault_where (is_frozen_heap st (owner_of trace st x.seg.0)) Frozen ∷ fault_where (not (passes_barrier trace st x v)) Segv ∷ []) some in
    false≢true (sym (ap is_some (same ∙ e)) ∙ some)

-- a row that is set is there, also where there is no such row
row_set : {A : Type 0} (xs : List (List A)) (p r : ℕ) (v : A) → get_or (set xs p (set (get_or xs p []) r v)) p [] ≡ set (get_or xs p []) r v
row_set [] p r v = refl
row_set (x ∷ xs) zero r v = refl
row_set (x ∷ xs) (suc p) r v = row_set xs p r v

module _ (trace : Trace) (p : ℕ) (s : State) where
  pub part_register : (r : ℕ) (v : Option Name) → part trace (set_register p r v s) (user p) ≡ with_register r v (part trace s (user p))
  unfolding part set_register
  part_register r v =
      ap (λ row. record (part trace s (user p)) { process = Some (record { registers = row; done = slice_index_or s.done p 0; has_ended = among p s.ended }) }) (row_set s.registers p r v)

  pub part_done : p < length s.done → part trace (count_done p s) (user p) ≡ with_done (part trace s (user p))
  unfolding part count_done
  part_done inside =
      ap (λ done. record (part trace s (user p)) { process = Some (record { registers = slice_index_or s.registers p []; done = done; has_ended = among p s.ended }) })
      (get_or-set_same s.done p (slice_index_or s.done p 0 + 1) 0 inside)

  pub part_written : (x : Name) (i : ℕ) (content : Content) → part trace (write x i content s) (user p) ≡ with_written x i content (part trace s (user p))
  unfolding part write
  part_written x i content = ap (λ objects. record (part trace s (user p)) { objects = objects }) (kept-written (λ n. heap_eq (owner_of trace s n.seg.0) (user p)) x i content s.objects)

  pub link_own : (x : Name) (v : Option Name) → owner_of trace s x.seg.0 ≡ user p → ((y : Name) → v ≡ Some y → owner_of trace s y.seg.0 ≡ user p) → with_exit_of_store trace x v s ≡ s
  unfolding with_exit_of_store
  link_own x None own owns = refl
  link_own x (Some y) own owns = rw (own, owns y refl, heap_eq_refl (user p)) refl

module _ (trace : Trace) (p : ℕ) (st su : State) (alike : Alike trace p st su) where
  register_set_same : (r : ℕ) (v w : Option Name) → v ≡ w → part trace (set_register p r v st) (user p) ≡ part trace (set_register p r w su) (user p)
  register_set_same r v w e = part_register trace p st r v ∙ ap₂ (λ v c. with_register r v c) e alike.same ∙ sym (part_register trace p su r w)

  written_same : (x : Name) (i : ℕ) (content : Content) → part trace (write x i content st) (user p) ≡ part trace (write x i content su) (user p)
  written_same x i content = part_written trace p st x i content ∙ ap (with_written x i content) alike.same ∙ sym (part_written trace p su x i content)

  put_same : (b : Option Name) (i n : ℕ) → part trace (after_put b i n st) (user p) ≡ part trace (after_put b i n su) (user p)
  unfolding after_put
  put_same None i n = alike.same
  put_same (Some x) i n = written_same x i (Holds n)

  own_value : (v : Option Name) → IsTrue (is_own p v) → (s : State) → p < process_count trace → IsFalse (among p s.ended) → (y : Name) → v ≡ Some y → owner_of trace s y.seg.0 ≡ user p
  own_value None o s known lives y e = absurd (cc e)
  own_value (Some z) o s known lives y e =
      ap (λ n. owner_of trace s n.seg.0) (sym (some_same z y e)) ∙ ap (owner_of trace s) (eqb-true z.seg.0 (p + 1) o) ∙ owner_user trace s p known lives
    where
      some_same : (z y : Name) → Some z ≡ Some y → z ≡ y
      some_same z y e = cc e

  stored_same : (b : Option Name) (i : ℕ) (v : Option Name) → IsTrue (is_local_store st p b i v) → first_fault (at_base b (store_faults trace st p i v)) ≡ None →
      part trace (after_store trace b i v st) (user p) ≡ part trace (after_store trace b i v su) (user p)
  unfolding after_store
  stored_same None i v l e = alike.same
  stored_same (Some x) i v l e =
      let own = (and_parts (x.seg.0 == p + 1) _ l).0 in
      elim (or_cases (nat_le (field_count st x) i || not (is_ref (field_at st x i))) (is_own p v) (and_parts (x.seg.0 == p + 1) _ l).1) [
        | inl fault ↦ absurd (no_store trace st p x i v (own_st trace p st su alike x own) fault e)
        | inr value ↦
            ap (λ s. part trace (write x i (Refers v) s) (user p)) (link_own trace p st x v (own_st trace p st su alike x own) (own_value v value st alike.known alike.lives))
            ∙ written_same x i (Refers v)
            ∙ sym (ap (λ s. part trace (write x i (Refers v) s) (user p)) (link_own trace p su x v (own_su trace p st su alike x own) (own_value v value su alike.known (lives_too trace p st su alike))))
      ]

  pub effect_same : (op : Op) → IsTrue (is_local st p op) → first_fault (faults trace st p op) ≡ None → part trace (effect trace p op st) (user p) ≡ part trace (effect trace p op su) (user p)
  unfolding is_local effect faults
  effect_same (Load r base i) l e =
      register_set_same r.0 _ _ (loaded_same trace p st su alike (register st.registers p base.0) i (register st.registers p r.0) l ∙ ap (λ b. reference_from su b i) (same_register trace p st su alike base.0))
  effect_same (Store base i value) l e =
      stored_same (register st.registers p base.0) i (register st.registers p value.0) l e
      ∙ ap₂ (λ b v. part trace (after_store trace b i v su) (user p)) (same_register trace p st su alike base.0) (same_register trace p st su alike value.0)
  effect_same (Put base i n) l e = put_same (register st.registers p base.0) i n ∙ ap (λ b. part trace (after_put b i n su) (user p)) (same_register trace p st su alike base.0)
  effect_same (Get base i) l e = alike.same
  effect_same (Move r from) l e = register_set_same r.0 _ _ (same_register trace p st su alike from.0)
  effect_same (Clear r) l e = register_set_same r.0 None None refl
  effect_same _ l e = absurd (false≢true l)
