-- What a request asks for: an operation, a whole call of another kind, the next event, or texts; and which rooms are asked for.
use Rattle.std.specs.Prelude.{◌≡◌, ℕ, ◌+◌, ◌*◌, ◌==◌, if◌then◌else◌, Bool, Option, Some, None}
use Rattle.k_types.specs.declared.names.LimitId.{LimitId}
use Rattle.k_types.specs.declared.names.Pid.{Pid}
use Rattle.k_types.specs.declared.names.Reg.{Reg}
use Rattle.k_types.specs.declared.names.SharedId.{SharedId}
use Rattle.k_types.specs.declared.names.TypeId.{TypeId}
use Rattle.k_types.specs.declared.op.Op.{Op}
use Rattle.k_types.specs.declared.op.Op.TheVariants.{New, KNew, SNew, Store, Load, Move, Clear, Dir, Put, Get, Share, Freeze, Attach, Kill as KillOther, Resize}
use Rattle.k_embed.specs.declared.doing.Whole.{Whole}
use Rattle.k_embed.specs.declared.doing.Whole.TheVariants.{Absorb, Collect, CollectKernel, Kill}
use Rattle.k_chronicle.specs.k_keeper.k_guests.declared.rooms.Rooms.{Rooms as HostRooms}
use Rattle.k_chronicle.specs.k_keeper.k_guests.Enough.{greater, lesser, most_events, most_room}
use Rattle.k_embed.specs.declared.messages.Request.{Request}
use Rattle.k_embed.specs.declared.messages.Rooms.{Rooms}

-- the register that is written or stored, and that of the object or the one that is read
abbrev pub reg_of : Request → Reg
reg_of q = record { 0 = q.reg }

abbrev pub base_of : Request → Reg
base_of q = record { 0 = q.base }

abbrev pub type_of : Request → TypeId
type_of q = record { 0 = q.at }

abbrev pub shared_of : Request → SharedId
shared_of q = record { 0 = q.at }

-- the limit that is resized, and the process that is killed by another
abbrev pub limit_of : Request → LimitId
limit_of q = record { 0 = q.at }

abbrev pub target_of : Request → Pid
target_of q = record { 0 = q.at }

abbrev pub pid_of : Request → Pid
pid_of q = record { 0 = q.pid }

-- the operation of that number; none where the number is of another call, or of none
abbrev pub operation_of : Request → Option Op
operation_of q =
    if q.call == 0 then Some (New (reg_of q) (type_of q))
    else if q.call == 1 then Some (KNew (reg_of q) (type_of q))
    else if q.call == 2 then Some (SNew (reg_of q) (shared_of q) (record { 0 = q.to }))
    else if q.call == 3 then Some (Store (base_of q) q.at (reg_of q))
    else if q.call == 4 then Some (Load (reg_of q) (base_of q) q.at)
    else if q.call == 5 then Some (Move (reg_of q) (base_of q))
    else if q.call == 6 then Some (Clear (reg_of q))
    else if q.call == 7 then Some (Dir (reg_of q))
    else if q.call == 8 then Some (Put (base_of q) q.at q.number)
    else if q.call == 9 then Some (Get (base_of q) q.at)
    else if q.call == 10 then Some (Share (shared_of q))
    else if q.call == 11 then Some (Freeze (shared_of q) (reg_of q))
    else if q.call == 12 then Some (Attach (reg_of q) (shared_of q))
    else if q.call == 13 then Some (KillOther (target_of q))
    else if q.call == 14 then Some (Resize (limit_of q) q.number)
    else None

-- the collection, end or absorption of that number; none where the number is of another call, or of none
abbrev pub whole_of : Request → Option Whole
whole_of q =
    if q.call == 16 then Some Collect
    else if q.call == 17 then Some CollectKernel
    else if q.call == 18 then Some Kill
    else if q.call == 19 then Some (Absorb (shared_of q))
    else None

-- whether the request takes the next event out
abbrev pub is_take : Request → Bool
is_take q = q.call == 20

-- whether the request publishes what the processes did inside their heaps
abbrev pub is_publish : Request → Bool
is_publish q = q.call == 21

-- whether the request prints the host
abbrev pub is_print : Request → Bool
is_print q = q.call == 24

-- the rooms that are asked for
abbrev pub rooms_of : Rooms → HostRooms
rooms_of r = record {
  events = r.events;
  kept = r.kept;
  tail = r.tail;
  objects = r.objects;
  exits = r.exits;
  kernel_exits = r.kernel_exits;
  entries = r.entries;
}

-- rooms for so many objects in each heap of so many processes and shared heaps: as many exit items as objects, as many events as there can
-- be, and none of them kept
pub record AreRoomsFor (each processes heaps : ℕ) (r : Rooms) : Type 0 where
  pub events : r.events ≡ most_events
  pub kept : r.kept ≡ 0
  pub tail : r.tail ≡ lesser (greater each 1) 1024
  pub objects : r.objects ≡ each
  pub exits : r.exits ≡ each
  pub kernel_exits : r.kernel_exits ≡ lesser ((processes + 1) * each) most_room
  pub entries : r.entries ≡ lesser ((processes + heaps + 1) * each) most_room
