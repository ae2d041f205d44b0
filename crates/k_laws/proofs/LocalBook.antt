-- A local operation leaves the book as it was.
use Rattle.std.proofs.Common.{◌≡◌, ℕ, zero, suc, ◌+◌, ◌<◌, ◌==◌, ◌||◌, ◌&&◌, not, true, false, cond, refl, sym, ap, ◌∙◌, List, [], ◌∷◌, map, length, Option, Some, None, is_some, arith, eqb-true, inl, inr, IsTrue, IsFalse, get_or, set, nat_le, subst}
use Rattle.std.proofs.Math.Path.{fun_ext}
use Rattle.std.proofs.lemmas.Bool.{false≢true, or_cases, and_parts, false_from_ne_true}
use Rattle.k_types.specs.declared.names.Name.{Name}
use Rattle.k_types.specs.declared.op.Op.{Op}
use Rattle.k_types.specs.declared.op.Op.TheVariants.{Store, Load, Move, Clear, Put, Get}
use Rattle.k_types.specs.Totals.{total}
use Rattle.k_types.specs.Names.{heap_eq, among, leads_to}
use Rattle.k_types.specs.Trace.{Trace, process_count}
use Rattle.k_types.specs.State.{State, Content, Refers, Holds, register}
use Rattle.k_types.specs.Owners.{owner_of, user, shared, bytes_by, charge_by}
use Rattle.k_types.specs.Numbers.{numbers_below}
use Rattle.k_types.specs.Limits.{direct_by}
use Rattle.k_types.specs.Updates.{set_register, write}
use Rattle.k_types.specs.Replies.{first_fault, faults, at_base, field_at, field_count, is_ref, reference_from, reference, load_faults, store_faults}
use Rattle.k_types.specs.Effects.{effect, after_store, after_put}
use Rattle.k_types.specs.Cells.{book_part, pins_of}
use Rattle.k_types.specs.Local.{is_local, is_own, is_local_load, is_local_store}
use Rattle.k_types.proofs.NameTests.{name_eq-true, heap_eq-same}
use Rattle.k_types.proofs.Lists.{get_or-set_cases}
use Rattle.k_types.proofs.Sums.{sum_same}
use Rattle.k_laws.proofs.Bytes.{bytes-written}
use Rattle.k_laws.proofs.OwnerOf.{owner_user}
use Rattle.k_laws.proofs.LocalSteps.{own_faults}
use Rattle.k_laws.proofs.LocalEffects.{link_own, no_store}

-- what a local operation leaves of the book
pub record KeepsBook (trace : Trace) (st su : State) : Type 0 where
  pub ended : su.ended ≡ st.ended
  pub done : su.done ≡ st.done
  pub book : book_part trace su ≡ book_part trace st

total-set : {A : Type 0} (f : A → ℕ) (xs : List A) (i : ℕ) (y d : A) → f y ≡ 0 → f (get_or xs i d) ≡ 0 → total f (set xs i y) ≡ total f xs
total-set f [] i y d a b = refl
total-set f (x ∷ xs) zero y d a b = omega arith
total-set f (x ∷ xs) (suc i) y d a b = omega (arith, total-set f xs i y d a b)

module _ (trace : Trace) (st : State) (p : ℕ) (known : p < process_count trace) (lives : IsFalse (among p st.ended)) where
  own_leads : (v : Option Name) (n : Name) → IsTrue (is_own p v) → IsFalse (heap_eq (user p) (owner_of trace st n.seg.0)) → IsFalse (leads_to v n)
  own_leads None n o apart = refl
  own_leads (Some m) n o apart =
      false_from_ne_true _ (λ e. false≢true (sym apart ∙ heap_eq-same (user p) (owner_of trace st n.seg.0)
      (sym (ap (λ k. owner_of trace st k.seg.0) (sym (name_eq-true m n e)) ∙ ap (owner_of trace st) (eqb-true m.seg.0 (p + 1) o) ∙ owner_user trace st p known lives))))

  pins_row : (r : ℕ) (v : Option Name) (n : Name) → IsTrue (is_own p v) → IsTrue (is_own p (register st.registers p r)) → (q : ℕ) →
      cond (heap_eq (user q) (owner_of trace st n.seg.0)) 0 (pins_of (get_or (set st.registers p (set (get_or st.registers p []) r v)) q []) n)
      ≡ cond (heap_eq (user q) (owner_of trace st n.seg.0)) 0 (pins_of (get_or st.registers q []) n)
  pins_row r v n o old q =
      elim (heap_eq (user q) (owner_of trace st n.seg.0)) as (λ b. heap_eq (user q) (owner_of trace st n.seg.0) ≡ b →
      cond b 0 (pins_of (get_or (set st.registers p (set (get_or st.registers p []) r v)) q []) n) ≡ cond b 0 (pins_of (get_or st.registers q []) n)) [
        | true ↦ λ e. refl
        | false ↦ λ e. elim (get_or-set_cases st.registers p q (set (get_or st.registers p []) r v) []) [
          | inl same ↦ ap (λ row. pins_of row n) same
          | inr here ↦
              let apart : IsFalse (heap_eq (user p) (owner_of trace st n.seg.0)) = ap (λ k. heap_eq (user k) (owner_of trace st n.seg.0)) (sym here.0) ∙ e in
              ap (λ row. pins_of row n) here.1
              ∙ total-set (λ r. cond (leads_to r n) 1 0) (get_or st.registers p []) r v None
              (ap (λ b. cond b 1 0) (own_leads v n o apart)) (ap (λ b. cond b 1 0) (own_leads (register st.registers p r) n old apart))
              ∙ ap (λ k. pins_of (get_or st.registers k []) n) (sym here.0)
        ]
      ] refl

  register_keeps : (r : ℕ) (v : Option Name) → IsTrue (is_own p v) → IsTrue (is_own p (register st.registers p r)) → KeepsBook trace st (set_register p r v st)
  unfolding set_register book_part bytes_by
  register_keeps r v o old = record {
    ended = refl;
    done = refl;
    book = ap (λ held. record (book_part trace st) { pins = held }) (fun_ext (λ n. sum_same _ _ (pins_row r v n o old) (numbers_below (process_count trace))));
  }

  write_keeps : (x : Name) (i : ℕ) (c : Content) → KeepsBook trace st (write x i c st)
  unfolding write book_part
  write_keeps x i c = record {
    ended = refl;
    done = refl;
    book = ap (λ b. record (book_part trace st) {
      shared_bytes = map (λ s. b (shared s)) (numbers_below trace.shared_heaps);
      direct = map (direct_by trace (charge_by b st.ended st.shares)) (numbers_below (length trace.limits));
    })
        (fun_ext (λ h. bytes-written (owner_of trace st) h x i c st.objects));
  }

  nothing_kept : KeepsBook trace st st
  nothing_kept = record { ended = refl; done = refl; book = refl }

  put_keeps : (b : Option Name) (i n : ℕ) → KeepsBook trace st (after_put b i n st)
  unfolding after_put
  put_keeps None i n = nothing_kept
  put_keeps (Some x) i n = write_keeps x i (Holds n)

  owns : (v : Option Name) → IsTrue (is_own p v) → (y : Name) → v ≡ Some y → owner_of trace st y.seg.0 ≡ user p
  owns None o y e = absurd (cc e)
  owns (Some z) o y e = ap (λ n. owner_of trace st n.seg.0) (sym (some_same z y e)) ∙ ap (owner_of trace st) (eqb-true z.seg.0 (p + 1) o) ∙ owner_user trace st p known lives
    where
      some_same : (z y : Name) → Some z ≡ Some y → z ≡ y
      some_same z y e = cc e

  load_keeps : (r : ℕ) (b : Option Name) (i : ℕ) → IsTrue (is_local_load st p b i (register st.registers p r)) → first_fault (at_base b (load_faults trace st p i)) ≡ None →
      KeepsBook trace st (set_register p r (reference_from st b i) st)
  unfolding first_fault
  load_keeps r None i l e = absurd (cc e)
  load_keeps r (Some x) i l e =
      let own = (and_parts (x.seg.0 == p + 1) _ l).0 in
      let at : owner_of trace st x.seg.0 ≡ user p = ap (owner_of trace st) (eqb-true x.seg.0 (p + 1) own) ∙ owner_user trace st p known lives in
      elim (or_cases (nat_le (field_count st x) i || not (is_ref (field_at st x i))) (is_own p (reference (field_at st x i)) && is_own p (register st.registers p r)) (and_parts (x.seg.0 == p + 1) _ l).1) [
        | inl fault ↦ absurd (false≢true (sym (ap is_some e) ∙ own_faults trace st p x i at fault))
        | inr values ↦ let both = and_parts (is_own p (reference (field_at st x i))) (is_own p (register st.registers p r)) values in register_keeps r (reference (field_at st x i)) both.0 both.1
      ]

  stored_keeps : (b : Option Name) (i : ℕ) (v : Option Name) → IsTrue (is_local_store st p b i v) → first_fault (at_base b (store_faults trace st p i v)) ≡ None → KeepsBook trace st (after_store trace b i v st)
  unfolding after_store
  stored_keeps None i v l e = nothing_kept
  stored_keeps (Some x) i v l e =
      let own = (and_parts (x.seg.0 == p + 1) _ l).0 in
      let at : owner_of trace st x.seg.0 ≡ user p = ap (owner_of trace st) (eqb-true x.seg.0 (p + 1) own) ∙ owner_user trace st p known lives in
      elim (or_cases (nat_le (field_count st x) i || not (is_ref (field_at st x i))) (is_own p v) (and_parts (x.seg.0 == p + 1) _ l).1) [
        | inl fault ↦ absurd (no_store trace st p x i v at fault e)
        | inr value ↦ subst (λ s. KeepsBook trace st (write x i (Refers v) s)) (sym (link_own trace p st x v at (owns v value))) (write_keeps x i (Refers v))
      ]

  pub effect_keeps_book' : (op : Op) → IsTrue (is_local st p op) → first_fault (faults trace st p op) ≡ None → KeepsBook trace st (effect trace p op st)
  unfolding effect is_local faults
  effect_keeps_book' (Load r base i) l e = load_keeps r.0 (register st.registers p base.0) i l e
  effect_keeps_book' (Store base i value) l e = stored_keeps (register st.registers p base.0) i (register st.registers p value.0) l e
  effect_keeps_book' (Put base i n) l e = put_keeps (register st.registers p base.0) i n
  effect_keeps_book' (Get base i) l e = nothing_kept
  effect_keeps_book' (Move r from) l e = let both = and_parts (is_own p (register st.registers p r.0)) (is_own p (register st.registers p from.0)) l in register_keeps r.0 (register st.registers p from.0) both.1 both.0
  effect_keeps_book' (Clear r) l e = register_keeps r.0 None refl l
  effect_keeps_book' _ l e = absurd (false≢true l)

pub effect_keeps_book : (trace : Trace) (st : State) (p : ℕ) (op : Op) → p < process_count trace → IsFalse (among p st.ended) → IsTrue (is_local st p op) → first_fault (faults trace st p op) ≡ None → KeepsBook trace st (effect trace p op st)
effect_keeps_book trace st p op known lives l e = effect_keeps_book' trace st p known lives op l e
