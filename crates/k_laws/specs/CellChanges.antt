-- What changes of the state change in the part of a cell, as functions of parts alone.
use Rattle.std.specs.Prelude.{ℕ, ◌+◌, ◌==◌, ◌&&◌, ◌||◌, not, true, false, List, [], ◌∷◌, map, filter, replicate, Option, Some, None, unwrap_or, option_map, if◌then◌else◌}
use Rattle.std.specs.List.{list_any}
use Rattle.k_types.specs.declared.names.Name.{Name}
use Rattle.k_types.specs.declared.names.TypeId.{TypeId}
use Rattle.k_types.specs.declared.names.Field.{Field}
use Rattle.k_types.specs.declared.names.Heap.{Heap}
use Rattle.k_types.specs.declared.names.Phase.{Phase}
use Rattle.k_types.specs.declared.names.Phase.TheVariants.{Absorbed}
use Rattle.k_types.specs.Names.{name_eq, heap_eq}
use Rattle.k_types.specs.State.{Object, fresh, has, refers}
use Rattle.k_types.specs.Reach.{reach_among, is_shared_heap}
use Rattle.k_types.specs.Updates.{with_object}
use Rattle.k_types.specs.Cells.{CellPart, ProcessPart}

-- the serials given in a segment; none where the heap doesn't own it
abbrev pub given : Option ℕ → ℕ
given serials = unwrap_or serials 0

-- the name of the next object of a segment that the heap owns
abbrev pub next_name_in : ℕ → CellPart → Name
next_name_in seg c = record { seg = record { 0 = seg }; serial = record { 0 = given (c.made seg) + 1 } }

-- the segment has one more object
abbrev pub with_created : ℕ → TypeId → List Field → CellPart → CellPart
with_created seg ty kinds c = record c {
  objects = with_object (record { name = next_name_in seg c; ty = Some ty; fields = map fresh kinds }) c.objects;
  made = λ at. if at == seg then Some (given (c.made seg) + 1) else c.made at;
}

-- the heap has an exit item to the object
abbrev pub with_exit_to : Name → CellPart → CellPart
with_exit_to y c = record c { exits = λ n. c.exits n || name_eq y n }

-- a collection of the heap is open
abbrev pub with_scan : List Name → CellPart → CellPart
with_scan roots c = record c { scan = Some roots }

-- the shared heap is in the phase
abbrev pub in_phase : Phase → CellPart → CellPart
in_phase phase c = record c { phase = Some phase }

-- what the open collection reaches inside the heap
abbrev pub reached_in : CellPart → List Object
reached_in c = reach_among c.objects (unwrap_or c.scan [])

-- the collection has ended: what it reached is left, and the exit items to which that refers
abbrev pub collected : CellPart → CellPart
collected c = record c {
  objects = filter (λ o. has (reached_in c) o.name) c.objects;
  exits = λ n. c.exits n && list_any (λ x. refers x n) (reached_in c);
  scan = None;
}

-- a heap that was given to the kernel has nothing left
abbrev pub given_away : CellPart → CellPart
given_away c = record c { objects = []; made = λ at. None; exits = λ n. false }

-- the process has ended, and its registers are null
abbrev pub ended_process : ProcessPart → ProcessPart
ended_process q = record q { registers = replicate 16 None; has_ended = true }

-- the cell of a process that has ended
abbrev pub at_its_end : CellPart → CellPart
at_its_end c = record (given_away c) { process = option_map ended_process c.process }

-- the cell of a shared heap that was absorbed
abbrev pub when_absorbed : CellPart → CellPart
when_absorbed c = record (given_away c) { phase = Some Absorbed }

-- the objects of the first list put in their places among those of the second
abbrev pub with_objects : List Object → List Object → List Object
with_objects [] objects = objects
with_objects (o ∷ more) objects = with_object o (with_objects more objects)

-- the first of two that is there
abbrev pub either_of : Option ℕ → Option ℕ → Option ℕ
either_of None other = other
either_of (Some n) other = Some n

-- the kernel after it took in the heap g: its objects and segments, and those of its exit items that lead into shared heaps.
-- The kernel's own exit items into g go
abbrev pub taking_in : (ℕ → Heap) → Heap → CellPart → CellPart → CellPart
taking_in own g heap kernel = record kernel {
  objects = with_objects heap.objects kernel.objects;
  made = λ at. either_of (kernel.made at) (heap.made at);
  exits = λ n. (kernel.exits n && not (heap_eq (own n.seg.0) g)) || (heap.exits n && is_shared_heap (own n.seg.0));
}
