-- The rooms of shared heaps are raised as far as the trace may need.
use Rattle.std.proofs.Common.{◌≡◌, ℕ, ◌+◌, ◌<◌, ◌≤◌, ◌^◌, ◌||◌, cond, true, refl, sym, ap, ◌∙◌, subst, inl, inr, List, [], ◌∷◌, length, take, drop, replicate, get_or, min, Option, Some, None, arith, ltb-true, IsTrue}
use Rattle.std.specs.Prelude.{IfSome}
use Rattle.std.specs.List.{AllByRecursion, list_all, list_any}
use Rattle.std.proofs.Math.Nat.{le-min, min-le_left}
use Rattle.std.proofs.Math.Seq.{take-length}
use Rattle.std.proofs.lemmas.Bool.{and_parts, cases_Bool, cases_eq, eqb-true}
use Rattle.std.proofs.lemmas.Grind.{get_or-set_at}
use Rattle.std.proofs.lemmas.List.{get_or-replicate, get_or-set_other, length-replicate, length-set}
use Rattle.std.proofs.lemmas.Option.{get_or_from_slice_get, slice_get_within}
use Rattle.k_types.specs.declared.op.Op.{Op}
use Rattle.k_types.specs.declared.op.Op.TheVariants.{Share}
use Rattle.k_types.specs.Steps.{in_range}
use Rattle.k_types.specs.Totals.{total}
use Rattle.k_types.specs.Trace.{Trace, operations_of, process_count}
use Rattle.k_types.specs.TraceRules.{KeepsRules}
use Rattle.k_types.proofs.Numbered.{drop_all}
use Rattle.k_types.proofs.Sums.{total_at_most}
use Rattle.k_laws.specs.Counts.{is_share_of, is_store, stores_in}
use Rattle.k_laws.proofs.Counting.{count_low}
use Rattle.k_agree.specs.Rooms.{exit_room}
use Rattle.k_still.proofs.InOrder.{drop_read}
use Rattle.k_still.proofs.Tables.{exit_room_low, front_low, front_next, over_lists, own_few}
use Rattle.k_still.specs.Opening.{AreSharedRooms, CanRaise, heap_made, raised, with_more}

more_length : (most n : ℕ) (o : Option ℕ) (xs : List ℕ) → length (with_more most n o xs) ≡ length xs
more_length most n None xs = refl
more_length most n (Some at) xs = length-set xs at _

raised_length : (most n : ℕ) (ops : List Op) (xs : List ℕ) → length (raised most n ops xs) ≡ length xs
raised_length most n [] xs = refl
raised_length most n (op ∷ ops) xs = raised_length most n ops (with_more most n (heap_made op) xs) ∙ more_length most n (heap_made op) xs

-- no room is above the most
abbrev pub AreLow : ℕ → List ℕ → Type 0
AreLow most xs = (s : ℕ) → s < length xs → get_or xs s 0 ≤ most

more_low : (most n : ℕ) (o : Option ℕ) (xs : List ℕ) → AreLow most xs → AreLow most (with_more most n o xs)
more_low most n None xs low s inside = low s inside
more_low most n (Some at) xs low s inside =
    let within : s < length xs = omega (arith, inside, length-set xs at (min most (get_or xs at 0 + n))) in
    elim (cases_eq at s) [
      | inl same ↦
          let here = get_or-set_at xs at s (min most (get_or xs at 0 + n)) 0 (sym same) (omega (arith, same, within)) in
          omega (arith, here, min-le_left most (get_or xs at 0 + n))
      | inr apart ↦ omega (arith, get_or-set_other xs at s (min most (get_or xs at 0 + n)) 0 (λ e. apart (sym e)), low s within)
    ]

raised_low : (most n : ℕ) (ops : List Op) (xs : List ℕ) → AreLow most xs → AreLow most (raised most n ops xs)
raised_low most n [] xs low = low
raised_low most n (op ∷ ops) xs low = raised_low most n ops (with_more most n (heap_made op) xs) (more_low most n (heap_made op) xs low)

-- a room stays at least what it was
more_grows : (most n : ℕ) (o : Option ℕ) (xs : List ℕ) (s v : ℕ) → s < length xs → v ≤ most → v ≤ get_or xs s 0 → v ≤ get_or (with_more most n o xs) s 0
more_grows most n None xs s v inside fits least = least
more_grows most n (Some at) xs s v inside fits least = elim (cases_eq at s) [
  | inl same ↦
      let here = get_or-set_at xs at s (min most (get_or xs at 0 + n)) 0 (sym same) (omega (arith, same, inside)) in
      let old : get_or xs at 0 ≡ get_or xs s 0 = ap (λ k. get_or xs k 0) same in
      let more : v ≤ min most (get_or xs at 0 + n) = le-min fits (omega (arith, old, least)) in
      omega (arith, here, more)
  | inr apart ↦ omega (arith, get_or-set_other xs at s (min most (get_or xs at 0 + n)) 0 (λ e. apart (sym e)), least)
]

raised_grows : (most n : ℕ) (ops : List Op) (xs : List ℕ) (s v : ℕ) → s < length xs → v ≤ most → v ≤ get_or xs s 0 → v ≤ get_or (raised most n ops xs) s 0
raised_grows most n [] xs s v inside fits least = least
raised_grows most n (op ∷ ops) xs s v inside fits least =
    raised_grows most n ops (with_more most n (heap_made op) xs) s v (omega (arith, more_length most n (heap_made op) xs, inside)) fits (more_grows most n (heap_made op) xs s v inside fits least)

-- the operation makes the shared heap of that number
made_by : (s : ℕ) (op : Op) → is_share_of s op ≡ true → heap_made op ≡ Some s
made_by s (Share h) t = ap Some (eqb-true h.0 s t)
made_by s _ t = absurd (cc)

more_here : (most n : ℕ) (o : Option ℕ) (xs : List ℕ) (s v : ℕ) → o ≡ Some s → s < length xs → v + n ≤ most → v ≤ get_or xs s 0 → v + n ≤ get_or (with_more most n o xs) s 0
more_here most n o xs s v is inside fits least =
    let more : v + n ≤ min most (get_or xs s 0 + n) = le-min fits (omega (arith, least)) in
    subst (λ p. v + n ≤ get_or (with_more most n p xs) s 0) (sym is) (omega (arith, more, get_or-set_at xs s s (min most (get_or xs s 0 + n)) 0 refl inside))

raised_enough : (most n : ℕ) (ops : List Op) (xs : List ℕ) (s v : ℕ) → s < length xs → v + n ≤ most → v ≤ get_or xs s 0 → list_any (is_share_of s) ops ≡ true → v + n ≤ get_or (raised most n ops xs) s 0
raised_enough most n [] xs s v inside fits least any = absurd (cc)
raised_enough most n (op ∷ ops) xs s v inside fits least any =
    let more = with_more most n (heap_made op) xs in
    let within : s < length more = omega (arith, more_length most n (heap_made op) xs, inside) in
    elim (cases_Bool (is_share_of s op)) [
      | inl makes ↦ raised_grows most n ops more s (v + n) within fits (more_here most n (heap_made op) xs s v (made_by s op makes) inside fits least)
      | inr other ↦
          raised_enough most n ops more s v within fits (more_grows most n (heap_made op) xs s v inside (omega (arith, fits)) least)
          (sym (ap (λ b. b || list_any (is_share_of s) ops) other) ∙ any)
    ]

-- the stores of a process that makes the shared heap
abbrev stores_for : ℕ → List Op → ℕ
stores_for s ops = cond (list_any (is_share_of s) ops) (stores_in ops) 0

raised_by : (most : ℕ) (ops : List Op) (xs : List ℕ) (s v : ℕ) → s < length xs → v + stores_in ops ≤ most → v ≤ get_or xs s 0 → v + stores_for s ops ≤ get_or (raised most (stores_in ops) ops xs) s 0
raised_by most ops xs s v inside fits least = elim (cases_Bool (list_any (is_share_of s) ops)) [
  | inl any ↦
      let e : stores_for s ops ≡ stores_in ops = ap (λ b. cond b (stores_in ops) 0) any in
      omega (arith, e, raised_enough most (stores_in ops) ops xs s v inside fits least any)
  | inr none ↦
      let e : stores_for s ops ≡ 0 = ap (λ b. cond b (stores_in ops) 0) none in
      omega (arith, e, raised_grows most (stores_in ops) ops xs s v inside (omega (arith, fits)) least)
]

-- the rooms of the shared heaps, after the first processes
pub record AreRaised (trace : Trace) (k most : ℕ) (rooms : List ℕ) : Type 0 where
  pub count : length rooms ≡ trace.shared_heaps
  pub is_most : most ≡ 1 + exit_room trace
  pub low : AreLow most rooms
  pub each : (s : ℕ) → s < trace.shared_heaps → 1 + total (stores_for s) (take k trace.operations) ≤ get_or rooms s 0

abbrev pub IsMadeBelow : ℕ → Op → Type 0
IsMadeBelow heaps op = IfSome (heap_made op) (λ s. s < heaps)

made_below : (trace : Trace) (op : Op) → IsTrue (in_range trace op) → IsMadeBelow trace.shared_heaps op
unfolding in_range
made_below trace (Share s) h = ltb-true s.0 trace.shared_heaps h
made_below trace _ h = tt

all_made : (trace : Trace) (ops : List Op) → IsTrue (list_all (in_range trace) ops) → AllByRecursion (IsMadeBelow trace.shared_heaps) ops
all_made trace [] ranged = tt
all_made trace (op ∷ ops) ranged =
    let parts = and_parts (in_range trace op) (list_all (in_range trace) ops) ranged in
    (made_below trace op parts.0, all_made trace ops parts.1)

stores_for_low : (s : ℕ) (ops : List Op) → stores_for s ops ≤ stores_in ops
stores_for_low s ops = elim (cases_Bool (list_any (is_share_of s) ops)) [
  | inl any ↦ let e : stores_for s ops ≡ stores_in ops = ap (λ b. cond b (stores_in ops) 0) any in omega (arith, e)
  | inr none ↦ let e : stores_for s ops ≡ 0 = ap (λ b. cond b (stores_in ops) 0) none in omega (arith, e)
]

module _ (trace : Trace) (rules : KeepsRules trace) where
  pub none_raised : (most : ℕ) (rooms : List ℕ) → length rooms ≡ trace.shared_heaps → most ≡ 1 + exit_room trace → ((s : ℕ) → s < trace.shared_heaps → get_or rooms s 0 ≡ 1) → AreRaised trace 0 most rooms
  none_raised most rooms count is each = record {
    count = count;
    is_most = is;
    low = λ s inside. omega (arith, is, each s (omega (arith, inside, count)));
    each = λ s inside. omega (arith, each s inside);
  }

  pub can_raise : (k most : ℕ) (rooms : List ℕ) (own : List Op) → k < process_count trace → operations_of trace k ≡ own → AreRaised trace k most rooms → CanRaise most (stores_in own) own rooms
  can_raise k most rooms own known is are = subst (λ ops. CanRaise most (stores_in ops) ops rooms) is (record {
    known = subst (λ n. AllByRecursion (IsMadeBelow n) (operations_of trace k)) (sym are.count) (all_made trace (operations_of trace k) (rules.operations.in_range k known));
    low = are.low;
    fits =
        let stores = count_low is_store (operations_of trace k) in
        omega (arith, are.is_most, exit_room_low trace rules, own_few trace rules k known, stores);
  })

  pub next_raised : (k most : ℕ) (rooms new : List ℕ) (own : List Op) → k < process_count trace → operations_of trace k ≡ own → new ≡ raised most (stores_in own) own rooms → AreRaised trace k most rooms → AreRaised trace (k + 1) most new
  next_raised k most rooms new own known is made are = subst (AreRaised trace (k + 1) most) (sym made) (subst (λ ops. AreRaised trace (k + 1) most (raised most (stores_in ops) ops rooms)) is (record {
    count = raised_length most (stores_in (operations_of trace k)) (operations_of trace k) rooms ∙ are.count;
    is_most = are.is_most;
    low = raised_low most (stores_in (operations_of trace k)) (operations_of trace k) rooms are.low;
    each = λ s inside.
        let within : k < length trace.operations = omega (arith, known, rules.operations.each) in
        let before = total_at_most (stores_for s) stores_in (stores_for_low s) (take k trace.operations) in
        let all = front_low stores_in trace.operations k [] within in
        let fits : 1 + total (stores_for s) (take k trace.operations) + stores_in (operations_of trace k) ≤ most = omega (arith, before, all, are.is_most, over_lists trace rules stores_in) in
        let more = raised_by most (operations_of trace k) rooms s (1 + total (stores_for s) (take k trace.operations)) (omega (arith, inside, are.count)) fits (are.each s inside) in
        omega (arith, more, front_next (stores_for s) trace.operations k [] within);
  }))

  pub all_raised : (k most : ℕ) (rooms : List ℕ) → k ≡ length trace.operations → AreRaised trace k most rooms → AreSharedRooms trace rooms
  all_raised k most rooms end are = record {
    count = are.count;
    each = λ s room found.
        let at = get_or_from_slice_get rooms s room 0 found in
        let enough = are.each s (omega (arith, slice_get_within rooms s room found, are.count)) in
        let all : total (stores_for s) (take k trace.operations) ≡ total (stores_for s) trace.operations = ap (total (stores_for s)) (ap (λ n. take n trace.operations) end ∙ take-length trace.operations) in
        omega (arith, at, enough, all, over_lists trace rules (stores_for s));
  }

-- the rooms are those after the process's first operations, and can be raised by the others too
pub record AreRaisedBy (most n : ℕ) (ops : List Op) (first : List ℕ) (i : ℕ) (rooms : List ℕ) : Type 0 where
  pub all : raised most n (drop i ops) rooms ≡ raised most n ops first
  pub can : CanRaise most n (drop i ops) rooms

-- the room is there, and is low enough for so many more
abbrev pub FitsMore : List ℕ → ℕ → Option ℕ → Type 0
FitsMore rooms n heap = IfSome heap (λ at. (at < length rooms) × (get_or rooms at 0 + n < 2 ^ 32))

module _ (most n : ℕ) (op : Op) (rest : List Op) (rooms : List ℕ) (can : CanRaise most n (op ∷ rest) rooms) where
  more_fits : FitsMore rooms n (heap_made op)
  more_fits = fits (heap_made op) can.known.0
    where
      fits : (heap : Option ℕ) → IfSome heap (λ at. at < length rooms) → FitsMore rooms n heap
      fits None known = tt
      fits (Some at) known = (known, omega (arith, can.low at known, can.fits))

  can_raise_rest : CanRaise most n rest (with_more most n (heap_made op) rooms)
  can_raise_rest = record {
    known = subst (λ heaps. AllByRecursion (IsMadeBelow heaps) rest) (sym (more_length most n (heap_made op) rooms)) can.known.1;
    low = more_low most n (heap_made op) rooms can.low;
    fits = can.fits;
  }

module _ (most n : ℕ) (ops : List Op) (first : List ℕ) (i : ℕ) (d : Op) (rooms : List ℕ) (before : AreRaisedBy most n ops first i rooms) (inside : i < length ops) where
  can_raise_left : CanRaise most n (get_or ops i d ∷ drop (i + 1) ops) rooms
  can_raise_left = subst (λ left. CanRaise most n left rooms) (drop_read ops i d inside) before.can

  pub next_fits_more : FitsMore rooms n (heap_made (get_or ops i d))
  next_fits_more = more_fits most n (get_or ops i d) (drop (i + 1) ops) rooms can_raise_left

  pub next_raised_by : (new : List ℕ) → new ≡ with_more most n (heap_made (get_or ops i d)) rooms → AreRaisedBy most n ops first (i + 1) new
  next_raised_by new is = subst (AreRaisedBy most n ops first (i + 1)) (sym is) (record {
    all = ap (λ left. raised most n left rooms) (sym (drop_read ops i d inside)) ∙ before.all;
    can = can_raise_rest most n (get_or ops i d) (drop (i + 1) ops) rooms can_raise_left;
  })

-- no operation is left
pub all_raised_by : (most n : ℕ) (ops : List Op) (first : List ℕ) (i : ℕ) (rooms : List ℕ) → AreRaisedBy most n ops first i rooms → length ops ≤ i → rooms ≡ raised most n ops first
all_raised_by most n ops first i rooms before end = ap (λ left. raised most n left rooms) (sym (drop_all ops i end)) ∙ before.all

-- before the first operation each has room for one item
pub first_raised : (trace : Trace) (rules : KeepsRules trace) (most : ℕ) (rooms : List ℕ) (heaps : ℕ) → rooms ≡ replicate heaps 1 → heaps ≡ trace.shared_heaps → most ≡ 1 + exit_room trace → AreRaised trace 0 most rooms
first_raised trace rules most rooms heaps is same most_is = subst (AreRaised trace 0 most) (sym is) (none_raised trace rules most (replicate heaps 1) (length-replicate {A = ℕ} heaps 1 ∙ same) most_is (λ s inside. get_or-replicate {A = ℕ} heaps s 1 0 (omega (arith, inside, same))))
