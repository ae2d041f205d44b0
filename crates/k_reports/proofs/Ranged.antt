-- The numbers of each event that is possible after a history that is begun are in range.
use Rattle.std.proofs.Common.{◌≡◌, ℕ, suc, ◌+◌, ◌*◌, ◌<◌, ◌≤◌, ◌^◌, refl, subst, List, [], ◌∷◌, length, get_or, Option, Some, None, arith, IsTrue, IsFalse}
use Rattle.k_types.specs.declared.names.Name.{Name}
use Rattle.k_types.specs.declared.names.Phase.{Phase}
use Rattle.k_types.specs.declared.names.Phase.TheVariants.{Unmade, Populating, Frozen, Absorbed as AbsorbedPhase}
use Rattle.k_types.specs.declared.op.Op.{Op}
use Rattle.k_types.specs.declared.op.Op.TheVariants.{New, KNew, SNew, Load, Dir, Get, Attach}
use Rattle.k_types.specs.declared.event.Fault.{Fault}
use Rattle.k_types.specs.declared.event.Reply.{Reply}
use Rattle.k_types.specs.declared.event.Reply.TheVariants.{Loaded}
use Rattle.k_types.specs.declared.event.Event.{Event}
use Rattle.k_types.specs.Bounds.{most_operations}
use Rattle.k_types.specs.Owners.{phase_of}
use Rattle.k_types.specs.Totals.{total}
use Rattle.k_types.specs.Trace.{Trace}
use Rattle.k_types.specs.State.{State, has, register}
use Rattle.k_types.specs.Replies.{answer, faults, field_at, first_fault, number_from, reference, reference_from, refused_or, reply_to, root_of}
use Rattle.k_types.specs.Sound.{IsSound}
use Rattle.k_laws.specs.Fits.{NumbersFit}
use Rattle.k_reports.specs.Spelled.{makes, IsReplyInRange}
use Rattle.k_laws.proofs.Replied.{field_refers}

-- A list of numbers that are each at most the bound has at most so many times the bound in all.
pub total_bounded : (bound : ℕ) (ns : List ℕ) → ((i : ℕ) → get_or ns i 0 ≤ bound) → total (λ n. n) ns ≤ length ns * bound
total_bounded bound [] each = omega arith
total_bounded bound (n ∷ ns) each =
    let first : n ≤ bound = each 0 in
    let rest : total (λ n. n) ns ≤ length ns * bound = total_bounded bound ns (λ i. each (suc i)) in
    grind (arith, first, rest)

some_same : (m n : Name) → Some m ≡ Some n → m ≡ n
some_same m n e = cc

loaded_ranged : (op : Op) → IsFalse (makes op) → (r : Option Name) → ((n : Name) → r ≡ Some n → n.serial.0 < 2 ^ 32) → IsReplyInRange op (Loaded r)
loaded_ranged op not None low = tt
loaded_ranged op not (Some n) low = (not, low n refl)

refused_ranged : (op : Op) (f : Option Fault) (reply : Reply) → IsReplyInRange op reply → IsReplyInRange op (refused_or f reply)
refused_ranged op None reply ranged = ranged
refused_ranged op (Some f) reply ranged = tt

module _ (trace : Trace) (history : List Event) (st : State) (sound : IsSound trace st) (fit : NumbersFit history st) where
  -- The serial of an object that is there is below 2^32.
  there_low : (n : Name) → IsTrue (has st.objects n) → n.serial.0 < 2 ^ 32
  there_low n there = omega (arith, sound.names.numbered n there, fit.serials n.seg.0)

  field_there : (x : Name) (i : ℕ) (y : Name) → reference (field_at st x i) ≡ Some y → IsTrue (has st.objects y)
  field_there x i y e = sound.no_dangling.fields x y (field_refers st x i y e)

  -- The object that a load through the register reads has a serial below 2^32.
  loaded_low : (base : Option Name) (i : ℕ) (n : Name) → reference_from st base i ≡ Some n → n.serial.0 < 2 ^ 32
  loaded_low None i n e = absurd (cc e)
  loaded_low (Some x) i n e = there_low n (field_there x i n e)

  number_low : (base : Option Name) (i : ℕ) → number_from st base i < 2 ^ 64
  number_low None i = omega arith
  number_low (Some x) i = fit.numbers x i

  root_low : (s : ℕ) (n : Name) → root_of (phase_of st.phases s) ≡ Some n → n.serial.0 < 2 ^ 32
  root_low s n e = go (phase_of st.phases s) refl e
    where
      go : (phase : Phase) → phase_of st.phases s ≡ phase → root_of phase ≡ Some n → n.serial.0 < 2 ^ 32
      go Unmade is leads = absurd (cc leads)
      go (Populating q) is leads = absurd (cc leads)
      go (Frozen root) is leads = there_low n (subst (λ m. IsTrue (has st.objects m)) (some_same root n leads) (sound.no_dangling.frozen s root is))
      go AbsorbedPhase is leads = absurd (cc leads)

  made_low : (seg : ℕ) → get_or st.made seg 0 + 1 < 2 ^ 32
  made_low seg = omega (arith, fit.serials seg)

  -- The answer of an operation is of its kind, and its numbers are in range.
  answer_ranged : (p : ℕ) (op : Op) → IsReplyInRange op (answer trace st p op)
  unfolding answer
  answer_ranged p (New r ty) = (refl, made_low _)
  answer_ranged p (KNew r ty) = (refl, made_low _)
  answer_ranged p (SNew r s ty) = (refl, made_low _)
  answer_ranged p (Load r base i) = loaded_ranged (Load r base i) refl (reference_from st (register st.registers p base.0) i) (loaded_low (register st.registers p base.0) i)
  answer_ranged p (Dir r) = (refl, omega arith)
  answer_ranged p (Get base i) = number_low (register st.registers p base.0) i
  answer_ranged p (Attach r s) = loaded_ranged (Attach r s) refl (root_of (phase_of st.phases s.0)) (root_low s.0)
  answer_ranged p _ = tt

  -- So are those of its reply.
  pub reply_ranged : (p : ℕ) (op : Op) → IsReplyInRange op (reply_to trace st p op)
  unfolding reply_to
  reply_ranged p op = refused_ranged op (first_fault (faults trace st p op)) (answer trace st p op) (answer_ranged p op)

  pub serials_low : length st.made ≤ 129 → total (λ n. n) st.made ≤ 129 * (1 + most_operations)
  serials_low few = omega (arith, total_bounded (1 + most_operations) st.made fit.serials, few)
