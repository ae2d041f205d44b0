-- What the making of a host answers.
use Rattle.std.specs.Prelude.{ℕ, ◌<◌, [], length, replicate}
use Rattle.k_types.specs.declared.names.TypeId.{TypeId}
use Rattle.k_types.specs.Trace.{Trace, process_count}
use Rattle.k_words.specs.Words.{Text}
use Rattle.k_trace.specs.Judgement.{IsBad}
use Rattle.k_trace.specs.Named.{NamedTrace}
use Rattle.k_trace.specs.Rules.{Spells}
use Rattle.k_ends.specs.k_guests.declared.terms.Terms.{Terms}
use Rattle.k_ends.specs.k_guests.declared.rooms.Rooms.{Rooms}
use Rattle.k_ends.specs.k_guests.Making.{AreEnough, AreFew, AreFit}
use Rattle.k_host.specs.declared.errors.OpenError.{OpenError}
use Rattle.k_host.specs.declared.errors.OpenError.TheVariants.{NoMemory, Bad, Terms as Unfit}
use Rattle.k_host.specs.Hosts.{HostValue, IsFresh}

-- a host for these terms is not made: memory ran out, or the terms are not fit
abbrev pub IsNotMade : Terms → OpenError → Type 0
IsNotMade terms (NoMemory refused) = Unit {0}
IsNotMade terms (Bad line reason) = ⊥
IsNotMade terms Unfit = ¬ (AreFit terms.setup terms.ty terms.rooms)

-- the trace that declares the same in the second version, whatever version it names, and in which no process has an operation: each host
-- has `kill` and `resize`
abbrev pub idle_trace : Trace → Trace
idle_trace trace = record trace { version = 2; operations = replicate (process_count trace) []; order = [] }

-- what the trace declares has the type, and the rooms are few, and enough for its processes
pub record AreFitFor (trace : Trace) (ty : TypeId) (rooms : Rooms) : Type 0 where
  pub known : ty.0 < length trace.types
  pub few : AreFew rooms
  pub enough : AreEnough (process_count trace) rooms

-- the bytes spell a trace that declares the type, and the host is one of what it declares, with its names, in which nothing has happened
pub record HasRead (bytes : Text) (ty : TypeId) (bodies : ℕ) (rooms : Rooms) (h : HostValue) : Type 0 where
  pub said : NamedTrace
  pub spelled : Spells bytes said
  pub fit : AreFitFor said.trace ty rooms
  pub fresh : IsFresh (record { trace = idle_trace said.trace; names = said.names; ty = ty; rooms = rooms }) bodies h

-- the bytes spell a trace that does not declare the type, or the rooms are not fit for it
pub record SpellsUnfit (bytes : Text) (ty : TypeId) (rooms : Rooms) : Type 0 where
  pub said : NamedTrace
  pub spelled : Spells bytes said
  pub unfit : ¬ (AreFitFor said.trace ty rooms)

-- no host is read: memory ran out, that line of the bytes is the first bad one by that reason, or what they spell is not fit
abbrev pub IsNotRead : Text → TypeId → Rooms → OpenError → Type 0
IsNotRead bytes ty rooms (NoMemory refused) = Unit {0}
IsNotRead bytes ty rooms (Bad line reason) = IsBad bytes line reason
IsNotRead bytes ty rooms Unfit = SpellsUnfit bytes ty rooms
