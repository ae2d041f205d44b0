-- A pass over the operations of all processes of a trace that was read.
use Rattle.std.proofs.Common.{◌≡◌, ℕ, ◌+◌, ◌*◌, ◌<◌, ◌≤◌, ◌^◌, refl, sym, ap, ◌∙◌, List, length, take, get_or, Vec, Global, arith}
use Rattle.std.proofs.Math.Seq.{take-length}
use Rattle.std.proofs.lemmas.List.{length-map}
use Rattle.k_types.specs.declared.names.Pid.{Pid}
use Rattle.k_types.specs.declared.op.Op.{Op}
use Rattle.k_types.specs.Totals.{total}
use Rattle.k_types.specs.Trace.{operations_of, process_count}
use Rattle.k_agree.specs.Rooms.{event_room, exit_room}
use Rattle.k_laws.specs.Counts.{stores_in}
use Rattle.k_process.proofs.Operations.{listed, own_operations}
use Rattle.k_trace.specs.declared.trace.Trace.{Trace}
use Rattle.k_trace.specs.Meaning.{meaning_of}
use Rattle.k_trace.specs.Rules.{IsTrace}
use Rattle.k_still.proofs.Tables.{event_room_is, over_lists, own_few, stores_few, stores_next}

-- the operations of one process, read from the lists of all
module _ (t : Trace) (is : IsTrace (meaning_of t)) (items : List (Vec Op Global)) (same : items ≡ t.ops.items) (p : ℕ) (v : Vec Op Global) (inside : p < length items) (read : v ≡ get_or items p v) where
  pub known : p < process_count (meaning_of t).trace
  known = omega (arith, inside, listed t items same, is.rules.operations.each)

  pub own : operations_of (meaning_of t).trace p ≡ v.items
  own = own_operations t items p v same inside read

  pub own_short : length v.items < 2 ^ 32
  own_short = omega (arith, ap length own, own_few (meaning_of t).trace is.rules p known)

  listed_inside : p < length (meaning_of t).trace.operations
  listed_inside = omega (arith, inside, listed t items same)

  pub stores_more : (stores more : ℕ) → stores ≡ total stores_in (take p (meaning_of t).trace.operations) → more ≡ stores_in v.items → stores + more ≡ total stores_in (take (p + 1) (meaning_of t).trace.operations)
  stores_more stores more so_far one = omega (arith, so_far, one, stores_next (meaning_of t).trace is.rules p v.items listed_inside own)

  pub stores_fit : (stores more : ℕ) → stores ≡ total stores_in (take p (meaning_of t).trace.operations) → more ≡ stores_in v.items → stores + more < 2 ^ 32
  stores_fit stores more so_far one = omega (arith, so_far, one, stores_few (meaning_of t).trace is.rules p v.items listed_inside own)

-- the pass is over
pub listed_end : (t : Trace) (items : List (Vec Op Global)) (n : ℕ) → items ≡ t.ops.items → n ≤ length items → length items ≤ n → n ≡ length (meaning_of t).trace.operations
listed_end t items n same low end = omega (arith, low, end, listed t items same)

module _ (t : Trace) (is : IsTrace (meaning_of t)) where
  pub stores_all : (items : List (Vec Op Global)) (stores n : ℕ) → items ≡ t.ops.items → stores ≡ total stores_in (take n (meaning_of t).trace.operations) → n ≡ length items → stores ≡ exit_room (meaning_of t).trace
  stores_all items stores n same so_far end =
      so_far
      ∙ ap (λ k. total stores_in (take k (meaning_of t).trace.operations)) (end ∙ listed t items same)
      ∙ ap (total stores_in) (take-length (meaning_of t).trace.operations)
      ∙ sym (over_lists (meaning_of t).trace is.rules stores_in)

  ordered : length (meaning_of t).trace.order ≡ length t.order.items
  ordered = length-map t.order.items (λ (pid : Pid). pid.0)

  pub few_ordered : length t.order.items ≤ 200000
  few_ordered = omega (arith, ordered, is.rules.operations.room)

  pub few_heaps : t.setup.shared ≤ 64
  few_heaps = is.rules.shared

  pub few_processes : length t.setup.procs.items ≤ 64
  few_processes = is.rules.processes

  pub events_all : 2 * length t.order.items + t.setup.shared + 2 ≡ event_room (meaning_of t).trace
  events_all = omega (arith, event_room_is (meaning_of t).trace is.rules, ordered)

-- the operations of one process, read by its number
module _ (t : Trace) (is : IsTrace (meaning_of t)) (p : ℕ) (v : Vec Op Global) (known : p < length t.setup.procs.items) (read : v ≡ get_or t.ops.items p v) where
  pub own_at : operations_of (meaning_of t).trace p ≡ v.items
  own_at = own_operations t t.ops.items p v refl (omega (arith, known, listed t t.ops.items refl, is.rules.operations.each)) read
