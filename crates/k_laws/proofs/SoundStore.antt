-- A sound state stays sound where a process stores a reference.
use Rattle.std.proofs.Common.{◌≡◌, ◌≢◌, ℕ, ◌<◌, not, true, false, cond, refl, sym, ap, ◌∙◌, inl, inr, List, [], ◌∷◌, length, Option, Some, None, arith, get_or, IsTrue, IsFalse, zero, suc, subst}
use Rattle.std.specs.List.{list_any}
use Rattle.std.proofs.lemmas.Bool.{and_from, or_left, or_right, not-false, false≢true, cases_Bool, not_from_false}
use Rattle.k_types.specs.declared.names.Name.{Name}
use Rattle.k_types.specs.declared.names.Phase.TheVariants.{Absorbed}
use Rattle.k_types.specs.Names.{heap_eq, among, leads_to}
use Rattle.k_types.specs.Trace.{IsHeap, Trace, process_count}
use Rattle.k_types.specs.State.{State, has, in_registers, has_exit, scan_of, register, Content, Refers, Holds, field_kind, fields_of, object_at}
use Rattle.k_types.specs.Owners.{owner_of, user, shared, phase_of, is_absorbed}
use Rattle.k_types.specs.Reach.{is_entered}
use Rattle.k_types.specs.Updates.{write, add_exit}
use Rattle.k_types.specs.Sound.{IsSound, IsLegalStore}
use Rattle.k_types.proofs.NameTests.{name_eq_refl, name_eq-true, heap_eq-true}
use Rattle.k_laws.proofs.Shielded.{IsShielded}
use Rattle.k_types.specs.declared.event.Fault.TheVariants.{Foreign, NoField, WrongKind, Frozen, Segv}
use Rattle.k_types.specs.declared.names.Field.TheVariants.{Ref}
use Rattle.k_types.specs.Replies.{first_fault, access_faults, is_foreign, sharer_fault, passes_barrier, store_faults, field_at, is_ref}
use Rattle.k_types.specs.Effects.{with_exit_of_store}
use Rattle.k_types.proofs.Lists.{below_any, get_or_inside}
use Rattle.k_laws.proofs.OwnerOf.{owner_stands, owner_lives}
use Rattle.k_laws.proofs.SoundExit.{add_exit_sound, exit_there}
use Rattle.k_laws.proofs.SoundWrite.{write_sound}
use Rattle.k_laws.proofs.FrameSteps.{none_on, none_first, owner_linked}
use Rattle.k_types.proofs.Owners.{owner_known}

-- a number above 0 stands inside the list
pub get_or_above : (xs : List ℕ) (k : ℕ) → 0 < get_or xs k 0 → k < length xs
get_or_above [] k h = absurd (omega arith)
get_or_above (x ∷ xs) zero h = omega arith
get_or_above (x ∷ xs) (suc k) h = omega (arith, get_or_above xs k h)

-- what a process holds is among the recorded roots of the heap that owns it, or its own heap isn't scanned
pub held_shielded : (trace : Trace) (st : State) (p : ℕ) (n : Name) → IsSound trace st → scan_of st.scans (user p) ≡ None → IsTrue (in_registers st.registers p n) → IsShielded trace st n
unfolding is_entered
held_shielded trace st p n sound idle held roots opened =
    elim (cases_Bool (heap_eq (user p) (owner_of trace st n.seg.0))) [
      | inl same ↦ let none : scan_of st.scans (owner_of trace st n.seg.0) ≡ None = ap (scan_of st.scans) (sym (heap_eq-true (user p) (owner_of trace st n.seg.0) same)) ∙ idle in absurd (cc (none, opened))
      | inr apart ↦
          sound.scans.recorded (owner_of trace st n.seg.0) roots n opened (sound.no_dangling.registers p n held) refl
          (or_left _ _ (or_right _ _ (below_any _ (process_count trace) p (rw (← sound.shape.sized.registers) (get_or_inside _ st.registers p held)) (and_from _ _ (not_from_false _ apart) held))))
    ]

-- a register that holds the object
pub register_holds : (registers : List (List (Option Name))) (p r : ℕ) (n : Name) → register registers p r ≡ Some n → IsTrue (in_registers registers p n)
register_holds registers p r n e = go (get_or registers p []) r e
  where
    go : (row : List (Option Name)) (r : ℕ) → get_or row r None ≡ Some n → IsTrue (list_any (λ r. leads_to r n) row)
    go [] r e = absurd (cc e)
    go (x ∷ row) zero e = or_left (leads_to x n) _ (ap (λ v. leads_to v n) e ∙ name_eq_refl n)
    go (x ∷ row) (suc r) e = or_right (leads_to x n) _ (go row r e)

-- what the test of a store passes
pub record Passes (trace : Trace) (st : State) (p : ℕ) (x : Name) (i : ℕ) (v : Option Name) : Type 0 where
  pub own : IsFalse (is_foreign (owner_of trace st x.seg.0) p)
  pub reference : IsTrue (is_ref (field_at st x i))
  pub barrier : IsTrue (passes_barrier trace st x v)

pub passes : (trace : Trace) (st : State) (p : ℕ) (x : Name) (i : ℕ) (v : Option Name) →
    first_fault (store_faults trace st p i v x) ≡ None → Passes trace st p x i v
unfolding access_faults
passes trace st p x i v e =
    let foreign = none_on (is_foreign (owner_of trace st x.seg.0) p) Foreign _ e in
    let sharer = none_first (sharer_fault st (owner_of trace st x.seg.0) p) _ foreign.1 in
    let field = none_on _ NoField _ sharer.1 in
    let kind = none_on (not (is_ref (field_at st x i))) WrongKind _ field.1 in
    let frozen = none_on _ Frozen _ kind.1 in
    let barrier = none_on (not (passes_barrier trace st x v)) Segv [] frozen.1 in
    record { own = foreign.0; reference = not-false _ kind.0; barrier = not-false _ barrier.0 }

module _ (trace : Trace) (st : State) (p : ℕ) (x : Name) (i : ℕ) (v : Option Name) (sound : IsSound trace st) (lives : IsFalse (among p st.ended)) (idle : scan_of st.scans (user p) ≡ None)
    (base : IsTrue (in_registers st.registers p x)) (held : (y : Name) → v ≡ Some y → IsTrue (in_registers st.registers p y)) (ok : Passes trace st p x i v) where
  lives_at : (q : ℕ) → owner_of trace st x.seg.0 ≡ user q → IsFalse (among q st.ended)
  lives_at q at = owner_lives (process_count trace) st.ended st.phases x.seg.0 q at

  stands_at : (s : ℕ) → owner_of trace st x.seg.0 ≡ shared s → phase_of st.phases s ≢ Absorbed
  stands_at s at gone = false≢true (sym (owner_stands (process_count trace) st.ended st.phases x.seg.0 s at) ∙ ap is_absorbed gone)

  known_at : IsHeap trace (owner_of trace st x.seg.0)
  known_at =
      owner_known trace st x.seg.0 (sound.shape.placed x (sound.no_dangling.registers p x base)).1

  linked_sound : IsSound trace (with_exit_of_store trace x v st)
  unfolding with_exit_of_store passes_barrier
  linked_sound = go v held ok.barrier
    where
      go : (v : Option Name) → ((y : Name) → v ≡ Some y → IsTrue (in_registers st.registers p y)) → IsTrue (passes_barrier trace st x v) → IsSound trace (with_exit_of_store trace x v st)
      go None held barrier = sound
      go (Some y) held barrier =
          elim (heap_eq (owner_of trace st x.seg.0) (owner_of trace st y.seg.0)) as (λ b. heap_eq (owner_of trace st x.seg.0) (owner_of trace st y.seg.0) ≡ b → IsSound trace (cond b st (add_exit (owner_of trace st x.seg.0) y st))) [
            | true ↦ λ e. sound
            | false ↦ λ e. add_exit_sound trace st (owner_of trace st x.seg.0) y sound (record {
              there = sound.no_dangling.registers p y (held y refl);
              known = known_at;
              leaves = e;
              allowed = barrier;
              shielded = held_shielded trace st p y sound idle (held y refl);
              lives = lives_at;
              stands = stands_at;
            })
          ] refl

  leads_is : (v : Option Name) (y : Name) → IsTrue (leads_to v y) → v ≡ Some y
  leads_is None y t = absurd (false≢true t)
  leads_is (Some z) y t = ap (λ n. Some n) (name_eq-true z y t)

  linked_objects : (w : Option Name) → (with_exit_of_store trace x w st).objects ≡ st.objects
  unfolding with_exit_of_store add_exit
  linked_objects None = refl
  linked_objects (Some y) =
      elim (heap_eq (owner_of trace st x.seg.0) (owner_of trace st y.seg.0)) as (λ b. (cond b st (add_exit (owner_of trace st x.seg.0) y st)).objects ≡ st.objects) [ true ↦ refl | false ↦ refl ]

  linked_has : (y : Name) → IsTrue (has st.objects y) → IsTrue (has (with_exit_of_store trace x v st).objects y)
  linked_has y there = ap (λ objects. has objects y) (linked_objects v) ∙ there

  linked_allowed : (y : Name) → IsTrue (leads_to v y) → IsLegalStore (owner_of trace (with_exit_of_store trace x v st) x.seg.0) (owner_of trace (with_exit_of_store trace x v st) y.seg.0)
  unfolding passes_barrier
  linked_allowed y leads =
      rw (owner_linked trace st x v x.seg.0, owner_linked trace st x v y.seg.0)
      (subst (λ w. IsTrue (passes_barrier trace st x w)) (leads_is v y leads) ok.barrier)

  listed_at : (y : Name) → IsFalse (heap_eq (owner_of trace (with_exit_of_store trace x (Some y) st) x.seg.0) (owner_of trace (with_exit_of_store trace x (Some y) st) y.seg.0)) →
      IsTrue (has_exit (with_exit_of_store trace x (Some y) st).exits (owner_of trace (with_exit_of_store trace x (Some y) st) x.seg.0) y)
  unfolding with_exit_of_store add_exit
  listed_at y =
      elim (heap_eq (owner_of trace st x.seg.0) (owner_of trace st y.seg.0)) as (λ b. heap_eq (owner_of trace st x.seg.0) (owner_of trace st y.seg.0) ≡ b →
      IsFalse (heap_eq (owner_of trace (cond b st (add_exit (owner_of trace st x.seg.0) y st)) x.seg.0) (owner_of trace (cond b st (add_exit (owner_of trace st x.seg.0) y st)) y.seg.0)) →
      IsTrue (has_exit (cond b st (add_exit (owner_of trace st x.seg.0) y st)).exits (owner_of trace (cond b st (add_exit (owner_of trace st x.seg.0) y st)) x.seg.0) y)) [
        | true ↦ λ e apart. absurd (false≢true (sym apart ∙ e))
        | false ↦ λ e apart. exit_there (owner_of trace st x.seg.0) y st.exits
      ] refl

  linked_listed : (y : Name) → IsTrue (leads_to v y) → IsFalse (heap_eq (owner_of trace (with_exit_of_store trace x v st) x.seg.0) (owner_of trace (with_exit_of_store trace x v st) y.seg.0)) →
      IsTrue (has_exit (with_exit_of_store trace x v st).exits (owner_of trace (with_exit_of_store trace x v st) x.seg.0) y)
  linked_listed y leads apart =
      subst
      (λ w. IsFalse (heap_eq (owner_of trace (with_exit_of_store trace x w st) x.seg.0) (owner_of trace (with_exit_of_store trace x w st) y.seg.0)) → IsTrue (has_exit (with_exit_of_store trace x w st).exits (owner_of trace (with_exit_of_store trace x w st) x.seg.0) y))
      (sym (leads_is v y leads)) (listed_at y) apart

  -- what is of the kind of references is a reference
  ref_kind : (c : Content) → IsTrue (is_ref c) → Ref ≡ field_kind c
  ref_kind (Refers r) t = refl
  ref_kind (Holds n) t = absurd (false≢true t)

  linked_kind : Ref ≡ field_kind (field_at (with_exit_of_store trace x v st) x i)
  linked_kind = ref_kind (field_at st x i) ok.reference ∙ ap (λ objects. field_kind (get_or (fields_of (object_at objects x)) i (Holds 0))) (sym (linked_objects v))

  pub stored_sound : IsSound trace (write x i (Refers v) (with_exit_of_store trace x v st))
  stored_sound = write_sound trace (with_exit_of_store trace x v st) x i (Refers v) linked_sound (record {
    kind = linked_kind;
    there = λ y leads. linked_has y (sound.no_dangling.registers p y (held y (leads_is v y leads)));
    allowed = λ y leads. linked_allowed y leads;
    listed = λ y leads apart. linked_listed y leads apart;
  })
