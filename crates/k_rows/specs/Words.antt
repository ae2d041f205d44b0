-- The words in which the worked histories are written, and the traces that they are histories of.
use Rattle.std.specs.Prelude.{ℕ, ◌==◌, Bool, true, false, List, [], ◌∷◌, ◌++◌, length, map, Some, None, if◌then◌else◌}
use Rattle.k_types.specs.declared.names.Reg.{Reg}
use Rattle.k_types.specs.declared.names.TypeId.{TypeId}
use Rattle.k_types.specs.declared.names.LimitId.{LimitId}
use Rattle.k_types.specs.declared.names.SharedId.{SharedId}
use Rattle.k_types.specs.declared.names.Name.{Name}
use Rattle.k_types.specs.declared.names.Field.TheVariants.{Ref, Int}
use Rattle.k_types.specs.declared.setup.LimitRow.{LimitRow}
use Rattle.k_types.specs.declared.op.Op.{Op}
use Rattle.k_types.specs.declared.event.Reply.{Reply}
use Rattle.k_types.specs.declared.event.Event.{Event}
use Rattle.k_types.specs.declared.event.Event.TheVariants.{Done, Ended, Absorbed, Closing}
use Rattle.k_types.specs.Numbers.{numbers_below}
use Rattle.k_types.specs.Trace.{Trace}
use Rattle.k_types.specs.Steps.{done_by}

-- the object of that segment and serial: segment 0 is the kernel's, then come those of the processes, two in most headers, and then
-- those of the shared heaps
abbrev pub name : ℕ → ℕ → Name
name seg serial = record { seg = record { 0 = seg }; serial = record { 0 = serial } }

-- the register of that number
abbrev pub reg : ℕ → Reg
reg r = record { 0 = r }

-- the one type: two references and an integer, 40 bytes
abbrev pub node : TypeId
node = record { 0 = 0 }

-- the first shared heap
abbrev pub s : SharedId
s = record { 0 = 0 }

-- the second shared heap
abbrev pub t : SharedId
t = record { 0 = 1 }

-- the process did the operation, and was answered so
abbrev pub did : ℕ → Op → Reply → Event
did p op reply = Done (record { 0 = p }) op reply

-- what differs from one trace to the other before the operations: the version, the limits, the limit of each process, and the
-- number of shared heaps
pub record Header : Type 0 where
  pub version : ℕ
  pub limits : List LimitRow
  pub procs : List LimitId
  pub shared_heaps : ℕ

-- the first limit, of 1000 bytes
abbrev root : LimitRow
root = record { parent = None; hard = true; max = 1000 }

-- a limit below that one
abbrev below : ℕ → Bool → ℕ → LimitRow
below parent hard max = record { parent = Some (record { 0 = parent }); hard = hard; max = max }

-- below the root a hard limit of 120 bytes for the first process, and a soft one of so many for the second
abbrev two_limits : ℕ → List LimitRow
two_limits max = root ∷ below 0 true 120 ∷ below 0 false max ∷ []

-- each process on a limit of its own, the second on that one
abbrev with_limits : List LimitRow → ℕ → Header
with_limits limits second = record { version = 1; limits = limits; procs = record { 0 = 1 } ∷ record { 0 = second } ∷ []; shared_heaps = 1 }

-- the second process on a soft limit of 400 bytes
abbrev pub usual : Header
usual = with_limits (two_limits 400) 2

-- the same with two shared heaps
abbrev pub two_shared : Header
two_shared = record usual { shared_heaps = 2 }

-- the second process on a soft limit of 60 bytes
abbrev pub narrow : Header
narrow = with_limits (two_limits 60) 2

-- the second process on a soft limit of 80 bytes
abbrev pub exact : Header
exact = with_limits (two_limits 80) 2

-- the second process on a soft limit of 500 bytes, below a soft one of 40
abbrev pub soft_path : Header
soft_path = with_limits (root ∷ below 0 true 120 ∷ below 0 false 40 ∷ below 2 false 500 ∷ []) 3

-- the second process on a soft limit of 400 bytes, all of which two hard limits reserve
abbrev pub reserved : Header
reserved = with_limits (root ∷ below 0 true 120 ∷ below 0 false 400 ∷ below 2 true 300 ∷ below 2 true 100 ∷ []) 2

-- of the second version: one process more, which comes first, on the root; the two others on the limits below it
abbrev pub governed : Header
governed = record usual { version = 2; procs = record { 0 = 0 } ∷ record { 0 = 1 } ∷ record { 0 = 2 } ∷ [] }

-- a line of the trace that gives no event, since its process has ended by then
pub record Undone : Type 0 where
  pub process : ℕ
  pub op : Op

-- the operations of the process in such lines
abbrev pub undone_by : ℕ → List Undone → List Op
undone_by p [] = []
undone_by p (line ∷ lines) = if line.process == p then line.op ∷ undone_by p lines else undone_by p lines

-- the process of each operation that the history does
abbrev pub doers : List Event → List ℕ
doers [] = []
doers (Done pid op said ∷ events) = pid.0 ∷ doers events
doers (Ended h objects bytes exits shares ∷ events) = doers events
doers (Absorbed shared ∷ events) = doers events
doers (Closing ∷ events) = doers events

-- the trace whose operations the history does, in its order, and then these lines: a ceiling of 200 bytes, and a directory of two
-- fields
abbrev pub trace_asking : Header → List Event → List Undone → Trace
trace_asking header history undone = record {
  version = header.version;
  ceiling = 200;
  dir_fields = 2;
  types = (Ref ∷ Ref ∷ Int ∷ []) ∷ [];
  limits = header.limits;
  procs = header.procs;
  shared_heaps = header.shared_heaps;
  operations = map (λ p. done_by p history ++ undone_by p undone) (numbers_below (length header.procs));
  order = doers history ++ map (λ line. line.process) undone;
}

-- the trace whose operations the history does, and no others
abbrev pub trace_doing : Header → List Event → Trace
trace_doing header history = trace_asking header history []
