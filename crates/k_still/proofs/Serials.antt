-- The allocations that are counted in each segment are the room that the trace gives.
use Rattle.std.proofs.Common.{◌≡◌, ℕ, zero, suc, ◌+◌, ◌<◌, ◌≤◌, ◌==◌, ◌^◌, ◌&&◌, nat_lt, Bool, false, refl, sym, ap, ◌∙◌, subst, inl, inr, List, [], ◌∷◌, length, drop, replicate, get_or, Option, Some, None, arith, eq-eqb, ne_eqb, ltb-true, IsTrue}
use Rattle.std.specs.Prelude.{IfSome}
use Rattle.std.specs.List.{AllByRecursion, list_all}
use Rattle.std.proofs.lemmas.Bool.{and_parts, cases_eq}
use Rattle.std.proofs.lemmas.Grind.{get_or-set_at}
use Rattle.std.proofs.lemmas.List.{get_or-set_other, length-replicate, length-set}
use Rattle.k_laws.proofs.Sizes.{zeros_at}
use Rattle.std.proofs.lemmas.Option.{get_or_from_slice_get, slice_get_within}
use Rattle.k_types.specs.declared.op.Op.{Op}
use Rattle.k_types.specs.declared.op.Op.TheVariants.{New, KNew, SNew}
use Rattle.k_types.specs.Bounds.{register_count}
use Rattle.k_types.specs.Numbers.{numbers_below}
use Rattle.k_types.specs.Steps.{in_range}
use Rattle.k_types.specs.Totals.{total}
use Rattle.k_types.specs.Trace.{Trace, operations_of, process_count, segment_count}
use Rattle.k_types.specs.TraceRules.{KeepsRules}
use Rattle.k_types.proofs.Numbered.{drop_all}
use Rattle.k_types.proofs.Sums.{total_at_most}
use Rattle.k_laws.specs.Counts.{allocates_in, one_if}
use Rattle.k_laws.proofs.Counting.{count_low, one_if_low}
use Rattle.k_still.proofs.InOrder.{drop_read}
use Rattle.k_still.proofs.Tables.{all_few}
use Rattle.k_still.specs.Opening.{AreSerialRooms, CanCount, counted, segment_given, with_one_more}
use Rattle.k_types.proofs.Totals.{total_more, total_within}

-- it is that segment
abbrev is_given : Option ℕ → ℕ → Bool
is_given None seg = false
is_given (Some given) seg = given == seg

one_more_length : (o : Option ℕ) (xs : List ℕ) → length (with_one_more o xs) ≡ length xs
one_more_length None xs = refl
one_more_length (Some at) xs = length-set xs at _

one_more_at : (o : Option ℕ) (xs : List ℕ) (seg : ℕ) → seg < length xs → get_or (with_one_more o xs) seg 0 ≡ get_or xs seg 0 + one_if (is_given o seg)
one_more_at None xs seg inside = omega arith
one_more_at (Some at) xs seg inside = elim (cases_eq at seg) [
  | inl same ↦
      let here = get_or-set_at xs at seg (get_or xs at 0 + 1) 0 (sym same) (omega (arith, same, inside)) in
      let old : get_or xs at 0 ≡ get_or xs seg 0 = ap (λ k. get_or xs k 0) same in
      let one : one_if (at == seg) ≡ 1 = ap one_if (eq-eqb at seg same) in
      omega (arith, here, old, one)
  | inr apart ↦
      let there = get_or-set_other xs at seg (get_or xs at 0 + 1) 0 (λ e. apart (sym e)) in
      let none : one_if (at == seg) ≡ 0 = ap one_if (ne_eqb at seg apart) in
      omega (arith, there, none)
]

counted_length : (procs p : ℕ) (ops : List Op) (xs : List ℕ) → length (counted procs p ops xs) ≡ length xs
counted_length procs p [] xs = refl
counted_length procs p (op ∷ ops) xs = counted_length procs p ops (with_one_more (segment_given procs p op) xs) ∙ one_more_length (segment_given procs p op) xs

counted_at : (procs p : ℕ) (ops : List Op) (xs : List ℕ) (seg : ℕ) → seg < length xs → get_or (counted procs p ops xs) seg 0 ≡ get_or xs seg 0 + total (λ op. one_if (is_given (segment_given procs p op) seg)) ops
counted_at procs p [] xs seg inside = omega arith
counted_at procs p (op ∷ ops) xs seg inside =
    let more = with_one_more (segment_given procs p op) xs in
    omega (
      arith,
      counted_at procs p ops more seg (subst (λ n. seg < n) (sym (one_more_length (segment_given procs p op) xs)) inside),
      one_more_at (segment_given procs p op) xs seg inside,
    )

given_at : (trace : Trace) (seg p : ℕ) (op : Op) → is_given (segment_given (process_count trace) p op) seg ≡ allocates_in trace seg p op
given_at trace seg p (New r ty) = refl
given_at trace seg p _ = refl

totals_given : (trace : Trace) (seg p : ℕ) (ops : List Op) → total (λ op. one_if (is_given (segment_given (process_count trace) p op) seg)) ops ≡ total (λ op. one_if (allocates_in trace seg p op)) ops
totals_given trace seg p [] = refl
totals_given trace seg p (op ∷ ops) = omega (arith, ap one_if (given_at trace seg p op), totals_given trace seg p ops)

-- the allocations of one process in the segment
abbrev own_given : Trace → ℕ → ℕ → ℕ
own_given trace seg p = total (λ op. one_if (allocates_in trace seg p op)) (operations_of trace p)

-- the counts of the segments, after the first processes
pub record AreCounted (trace : Trace) (k : ℕ) (rooms : List ℕ) : Type 0 where
  pub count : length rooms ≡ segment_count trace
  pub each : (seg : ℕ) → seg < segment_count trace → get_or rooms seg 0 ≡ one_if (seg == 0) + total (own_given trace seg) (numbers_below k)

abbrev pub IsGivenBelow : ℕ → ℕ → ℕ → Op → Type 0
IsGivenBelow segs procs p op = IfSome (segment_given procs p op) (λ seg. seg < segs)

given_below : (trace : Trace) (p : ℕ) (op : Op) → p < process_count trace → IsTrue (in_range trace op) → IsGivenBelow (segment_count trace) (process_count trace) p op
unfolding in_range
given_below trace p (New r ty) known h = omega (arith, known)
given_below trace p (KNew r ty) known h = omega arith
given_below trace p (SNew r s ty) known h =
    let parts = and_parts (nat_lt r.0 register_count && nat_lt s.0 trace.shared_heaps) (nat_lt ty.0 (length trace.types)) h in
    omega (arith, ltb-true s.0 trace.shared_heaps (and_parts (nat_lt r.0 register_count) (nat_lt s.0 trace.shared_heaps) parts.0).1)
given_below trace p _ known h = tt

all_given : (trace : Trace) (p : ℕ) (ops : List Op) → p < process_count trace → IsTrue (list_all (in_range trace) ops) → AllByRecursion (IsGivenBelow (segment_count trace) (process_count trace) p) ops
all_given trace p [] known ranged = tt
all_given trace p (op ∷ ops) known ranged =
    let parts = and_parts (in_range trace op) (list_all (in_range trace) ops) ranged in
    (given_below trace p op known parts.0, all_given trace p ops known parts.1)

module _ (trace : Trace) (rules : KeepsRules trace) where
  pub none_counted : (rooms : List ℕ) → length rooms ≡ segment_count trace → ((seg : ℕ) → seg < segment_count trace → get_or rooms seg 0 ≡ one_if (seg == 0)) → AreCounted trace 0 rooms
  none_counted rooms count each = record { count = count; each = λ seg inside. omega (arith, each seg inside) }

  given_few : (seg p : ℕ) → own_given trace seg p ≤ length (operations_of trace p)
  given_few seg p = count_low (allocates_in trace seg p) (operations_of trace p)

  pub can_count : (k : ℕ) (rooms : List ℕ) (own : List Op) → k < process_count trace → operations_of trace k ≡ own → AreCounted trace k rooms → CanCount (process_count trace) k own rooms
  can_count k rooms own known is are = subst (λ ops. CanCount (process_count trace) k ops rooms) is (record {
    few_procs = omega (arith, rules.processes);
    few = omega (arith, known, rules.processes);
    known = subst (λ n. AllByRecursion (IsGivenBelow n (process_count trace) k) (operations_of trace k)) (sym are.count) (all_given trace k (operations_of trace k) known (rules.operations.in_range k known));
    room = λ seg inside.
        let at = are.each seg (omega (arith, inside, are.count)) in
        let low = total_at_most (own_given trace seg) (λ p. length (operations_of trace p)) (given_few seg) (numbers_below k) in
        let all = total_within (λ p. length (operations_of trace p)) k (process_count trace) known in
        omega (arith, at, low, all, all_few trace rules, rules.operations.room, one_if_low (seg == 0));
  })

  pub next_counted : (k : ℕ) (rooms new : List ℕ) (own : List Op) → operations_of trace k ≡ own → new ≡ counted (process_count trace) k own rooms → AreCounted trace k rooms → AreCounted trace (k + 1) new
  next_counted k rooms new own is made are = subst (AreCounted trace (k + 1)) (sym made) (subst (λ ops. AreCounted trace (k + 1) (counted (process_count trace) k ops rooms)) is (record {
    count = counted_length (process_count trace) k (operations_of trace k) rooms ∙ are.count;
    each = λ seg inside.
        let at = counted_at (process_count trace) k (operations_of trace k) rooms seg (omega (arith, inside, are.count)) in
        omega (arith, at, totals_given trace seg k (operations_of trace k), are.each seg inside, total_more (own_given trace seg) k);
  }))

  pub all_counted : (rooms : List ℕ) → AreCounted trace (process_count trace) rooms → AreSerialRooms trace rooms
  all_counted rooms are = record {
    count = are.count;
    each = λ seg room found. sym (get_or_from_slice_get rooms seg room 0 found) ∙ are.each seg (omega (arith, slice_get_within rooms seg room found, are.count));
  }

-- the counts are those of the process's first operations, and the others can be counted too
pub record AreCountedBy (procs p : ℕ) (ops : List Op) (first : List ℕ) (i : ℕ) (counts : List ℕ) : Type 0 where
  pub all : counted procs p (drop i ops) counts ≡ counted procs p ops first
  pub can : CanCount procs p (drop i ops) counts

-- the count is there, and is low enough for one more
abbrev pub FitsOneMore : List ℕ → Option ℕ → Type 0
FitsOneMore counts seg = IfSome seg (λ at. (at < length counts) × (get_or counts at 0 + 1 < 2 ^ 32))

module _ (procs p : ℕ) (op : Op) (rest : List Op) (counts : List ℕ) (can : CanCount procs p (op ∷ rest) counts) where
  one_fits : FitsOneMore counts (segment_given procs p op)
  one_fits = fits (segment_given procs p op) can.known.0
    where
      fits : (seg : Option ℕ) → IfSome seg (λ at. at < length counts) → FitsOneMore counts seg
      fits None known = tt
      fits (Some at) known = (known, omega (arith, can.room at known))

  can_go_on : CanCount procs p rest (with_one_more (segment_given procs p op) counts)
  can_go_on =
      let seg = segment_given procs p op in
      let long = one_more_length seg counts in
      record {
        few_procs = can.few_procs;
        few = can.few;
        known = subst (λ n. AllByRecursion (IsGivenBelow n procs p) rest) (sym long) can.known.1;
        room = λ at inside.
            let within : at < length counts = omega (arith, inside, long) in
            omega (arith, one_more_at seg counts at within, can.room at within, one_if_low (is_given seg at));
      }

module _ (procs p : ℕ) (ops : List Op) (first : List ℕ) (i : ℕ) (d : Op) (counts : List ℕ) (before : AreCountedBy procs p ops first i counts) (inside : i < length ops) where
  can_count_rest : CanCount procs p (get_or ops i d ∷ drop (i + 1) ops) counts
  can_count_rest = subst (λ left. CanCount procs p left counts) (drop_read ops i d inside) before.can

  pub next_fits : FitsOneMore counts (segment_given procs p (get_or ops i d))
  next_fits = one_fits procs p (get_or ops i d) (drop (i + 1) ops) counts can_count_rest

  pub next_counted_by : (new : List ℕ) → new ≡ with_one_more (segment_given procs p (get_or ops i d)) counts → AreCountedBy procs p ops first (i + 1) new
  next_counted_by new is = subst (AreCountedBy procs p ops first (i + 1)) (sym is) (record {
    all = ap (λ left. counted procs p left counts) (sym (drop_read ops i d inside)) ∙ before.all;
    can = can_go_on procs p (get_or ops i d) (drop (i + 1) ops) counts can_count_rest;
  })

-- no operation is left
pub all_counted_by : (procs p : ℕ) (ops : List Op) (first : List ℕ) (i : ℕ) (counts : List ℕ) → AreCountedBy procs p ops first i counts → length ops ≤ i → counts ≡ counted procs p ops first
all_counted_by procs p ops first i counts before end = ap (λ left. counted procs p left counts) (sym (drop_all ops i end)) ∙ before.all

-- before the first operation the directory alone is counted
pub first_counted : (trace : Trace) (rules : KeepsRules trace) (counts : List ℕ) (others : ℕ) → counts ≡ 1 ∷ replicate others 0 → others ≡ process_count trace + trace.shared_heaps → AreCounted trace 0 counts
first_counted trace rules counts others is same = subst (AreCounted trace 0) (sym is) (none_counted trace rules (1 ∷ replicate others 0) (omega (arith, length-replicate {A = ℕ} others 0, same)) each)
  where
    each : (seg : ℕ) → seg < segment_count trace → get_or (1 ∷ replicate others 0) seg 0 ≡ one_if (seg == 0)
    each zero inside = refl
    each (suc seg) inside = zeros_at others seg ∙ sym (ap one_if (ne_eqb (suc seg) 0 (λ e. absurd (omega (arith, e)))))
