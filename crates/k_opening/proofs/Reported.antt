-- Rooms for what a report lists, heap after heap.
use Rattle.std.proofs.Common.{◌≡◌, ℕ, suc, ◌+◌, ◌<◌, ◌≤◌, sym, ap, ◌∙◌, subst, List, [], ◌∷◌, ◌++◌, get_or, length, map, take, Vec, Global, arith}
use Rattle.std.proofs.Math.Seq.{take-length}
use Rattle.std.proofs.lemmas.List.{append_assoc, get_or-append-add, get_or-map, get_or_append_left, length-append, length-map, map_more}
use Rattle.std.proofs.lemmas.Option.{slice_get-get_or}
use Rattle.k_types.specs.declared.names.Heap.{Heap}
use Rattle.k_types.specs.declared.names.Heap.TheVariants.{Kernel, Shared, User}
use Rattle.k_types.specs.declared.op.Op.{Op}
use Rattle.k_types.specs.Trace.{IsHeap, Trace, operations_of, process_count, segment_of}
use Rattle.k_types.specs.TraceRules.{KeepsRules}
use Rattle.k_laws.specs.Counts.{stores_in}
use Rattle.k_locks.specs.k_process.k_commit.k_agree.Rooms.{exit_room}
use Rattle.k_trace.specs.declared.trace.Trace.{Trace as TraceRead}
use Rattle.k_trace.specs.Meaning.{meaning_of}
use Rattle.k_process.proofs.Operations.{listed, own_operations}
use Rattle.k_still.specs.Opening.{AreSharedRooms}
use Rattle.k_outcome.specs.Listed.{AreRoomsFor, most_exits}

-- one process more has its room
pub one_process_added : (t : TraceRead) (items : List (Vec Op Global)) → items ≡ t.ops.items → (p : ℕ) (v : Vec Op Global) → p < length items → v ≡ get_or items p v → (first rooms new : List ℕ) (room : ℕ) →
    rooms ≡ first ++ map stores_in (take p (meaning_of t).trace.operations) → room ≡ stores_in v.items → new ≡ rooms ++ room ∷ [] → new ≡ first ++ map stores_in (take (p + 1) (meaning_of t).trace.operations)
one_process_added t items same p v inside read first rooms new room so_far room_is is =
    let all = (meaning_of t).trace.operations in
    let within : p < length all = omega (arith, inside, listed t items same) in
    let own : room ≡ stores_in (get_or all p []) = room_is ∙ ap stores_in (sym (own_operations t items p v same inside read)) in
    is
    ∙ ap (λ xs. xs ++ room ∷ []) so_far
    ∙ append_assoc first (map stores_in (take p all)) (room ∷ [])
    ∙ ap (λ (y : ℕ). first ++ (map stores_in (take p all) ++ y ∷ [])) own
    ∙ ap (λ xs. first ++ xs) (sym (map_more stores_in all p [] within))

-- and so have all
pub all_processes_added : (t : TraceRead) (items : List (Vec Op Global)) → items ≡ t.ops.items → (n : ℕ) → n ≡ length items → (first rooms : List ℕ) →
    rooms ≡ first ++ map stores_in (take n (meaning_of t).trace.operations) → rooms ≡ first ++ map stores_in (meaning_of t).trace.operations
all_processes_added t items same n end first rooms so_far =
    so_far
    ∙ ap (λ k. first ++ map stores_in (take k (meaning_of t).trace.operations)) (end ∙ listed t items same)
    ∙ ap (λ (all : List (List Op)). first ++ map stores_in all) (take-length (meaning_of t).trace.operations)

-- what comes after the first element
later : (x : ℕ) (xs : List ℕ) (n : ℕ) → get_or (x ∷ xs) (n + 1) 0 ≡ get_or xs n 0
later x xs n = let next : n + 1 ≡ suc n = omega arith in ap (λ k. get_or (x ∷ xs) k 0) next

module _ (trace : Trace) (rules : KeepsRules trace) (shared : List ℕ) (enough : AreSharedRooms trace shared) (rooms : List ℕ)
    (is : rooms ≡ ((exit_room trace ∷ []) ++ map stores_in trace.operations) ++ shared) where
  abbrev own : List ℕ
  own = map stores_in trace.operations

  own_count : length own ≡ process_count trace
  own_count = length-map trace.operations stores_in ∙ rules.operations.each

  sized : length rooms ≡ 1 + process_count trace + trace.shared_heaps
  sized = omega (arith, ap length is, length-append own shared, own_count, enough.count)

  kernel_room : get_or rooms 0 0 ≡ exit_room trace
  kernel_room = ap (λ (xs : List ℕ). get_or xs 0 0) is

  process_room : (p : ℕ) → p < process_count trace → get_or rooms (p + 1) 0 ≡ stores_in (operations_of trace p)
  process_room p known =
      ap (λ (xs : List ℕ). get_or xs (p + 1) 0) is
      ∙ later (exit_room trace) (own ++ shared) p
      ∙ get_or_append_left own shared 0 p (subst (λ n. p < n) (sym own_count) known)
      ∙ get_or-map stores_in trace.operations p [] 0 (subst (λ n. p < n) (sym rules.operations.each) known)

  shared_room : (s : ℕ) → get_or rooms (1 + process_count trace + s) 0 ≡ get_or shared s 0
  shared_room s =
      let front : length (exit_room trace ∷ own) + s ≡ 1 + process_count trace + s = omega (arith, own_count) in
      ap (λ (xs : List ℕ). get_or xs (1 + process_count trace + s) 0) is
      ∙ ap (λ n. get_or ((exit_room trace ∷ own) ++ shared) n 0) (sym front)
      ∙ get_or-append-add (exit_room trace ∷ own) shared s 0

  each_room : (h : Heap) → IsHeap trace h → most_exits trace h ≤ get_or rooms (segment_of trace h) 0
  each_room Kernel known = omega (arith, kernel_room)
  each_room (User p) known = omega (arith, process_room p.0 known)
  each_room (Shared s) known =
      omega (arith, shared_room s.0, enough.each s.0 (get_or shared s.0 0) (slice_get-get_or shared s.0 0 (subst (λ n. s.0 < n) (sym enough.count) known)))

  -- room for the kernel's exit items, for those of each process and for those of each shared heap
  pub rooms_for : AreRoomsFor trace rooms
  rooms_for = record { sized = sized; each = each_room }

-- put together as the three are added
pub rooms_added : (trace : Trace) → KeepsRules trace → (shared none one two three : List ℕ) (stores : ℕ) → AreSharedRooms trace shared → none ≡ [] → stores ≡ exit_room trace → one ≡ none ++ stores ∷ [] →
    two ≡ one ++ map stores_in trace.operations → three ≡ two ++ shared → AreRoomsFor trace three
rooms_added trace rules shared none one two three stores enough empty first kernel processes heaps =
    let kernel_alone : one ≡ exit_room trace ∷ [] = kernel ∙ ap (λ xs. xs ++ stores ∷ []) empty ∙ ap (λ (n : ℕ). n ∷ []) first in
    rooms_for trace rules shared enough three (heaps ∙ ap (λ xs. xs ++ shared) processes ∙ ap (λ xs. (xs ++ map stores_in trace.operations) ++ shared) kernel_alone)
