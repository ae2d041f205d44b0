-- The memory with which a run is ended.
use Rattle.std.specs.Prelude.{◌≡◌, ℕ, ◌≤◌, List, None, [], replicate, vec_capacity}
use Rattle.k_locks.specs.declared.rooms.EndRooms.{EndRooms}

-- there are so many free places for processes and for shared heaps, and empty lists with room for them
pub record AreEndRooms (process_count shared_count : ℕ) (rooms : EndRooms) : Type 0 where
  pub process_places : rooms.process_places.items ≡ replicate process_count None
  pub shared_places : rooms.shared_places.items ≡ replicate shared_count None
  pub processes_empty : rooms.processes.items ≡ []
  pub shared_empty : rooms.shared.items ≡ []
  pub process_room : process_count ≤ vec_capacity rooms.processes
  pub shared_room : shared_count ≤ vec_capacity rooms.shared

-- the list is empty, and so many fit into it
pub record HasRoom {T : Type 0} (count : ℕ) (items : List T) (capacity : ℕ) : Type 0 where
  pub empty : items ≡ []
  pub room : count ≤ capacity
