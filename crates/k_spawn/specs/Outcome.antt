-- What a call that can run out of memory answers.
use Rattle.std.specs.Prelude.{◌≡◌, ◌≢◌, ℕ, ◌||◌, nat_lt, Bool, false, IsTrue, List, [], length, Option, Some, None, Result, Ok, Err, if◌then◌else◌, codes}
use Rattle.std.specs.Str.{bytes_eq}
use Rattle.k_types.specs.declared.names.Pid.{Pid}
use Rattle.k_trace.specs.declared.errors.LineError.{LineError}
use Rattle.k_trace.specs.declared.errors.LineError.TheVariants as trace
use Rattle.k_trace.specs.Words.{Text, word_at}
use Rattle.k_trace.specs.Names.{declares}
use Rattle.k_trace.specs.declared.place.Place.{Place}
use Rattle.k_trace.specs.declared.place.Place.TheVariants.{Version, Kernel, Operations}
use Rattle.k_trace.specs.Named.{NamedTrace}
use Rattle.k_trace.specs.Judgement.{SoFar as TraceSoFar, BadLine, has_process}
use Rattle.k_trace.specs.declared.reasons.Reason.{Reason}
use Rattle.k_spawn.specs.declared.errors.ScriptLineError.{ScriptLineError}
use Rattle.k_spawn.specs.declared.errors.ScriptLineError.TheVariants as line
use Rattle.k_spawn.specs.declared.errors.ScriptError.{ScriptError}
use Rattle.k_spawn.specs.declared.errors.ScriptError.TheVariants as script
use Rattle.k_spawn.specs.Courses.{Course}
use Rattle.k_spawn.specs.declared.reasons.ScriptReason.TheVariants.{OfTrace}
use Rattle.k_spawn.specs.Reasons.{lower}
use Rattle.k_spawn.specs.Scripts.{Script, process_names}
use Rattle.k_spawn.specs.Judgement.{SoFar, Judged, IsBad, has_no_child, process_named}

-- what a reader holds: whether the first line was read, what the header says, the names of the children, and the children and lines
pub record ReaderState : Type 0 where
  pub begun : Bool
  pub header : TraceSoFar
  pub child_names : List Text
  pub course : Course

-- where the next line stands
abbrev pub place_now : ReaderState → Place
place_now r = if r.begun then (if nat_lt 0 (length r.course.lines) then Operations else r.header.place) else Version

-- what the lines that it has taken say
abbrev pub so_far : ReaderState → SoFar
so_far r = record {
  place = place_now r;
  said = record { header = r.header.said; child_names = r.child_names; parents = r.course.family.parents; lines = r.course.lines };
}

-- each of what is declared has a name
pub record IsNamed (t : NamedTrace) : Type 0 where
  pub types : length t.names.types ≡ length t.trace.types
  pub limits : length t.names.limits ≡ length t.trace.limits
  pub procs : length t.names.procs ≡ length t.trace.procs
  pub shared : length t.names.shared ≡ t.trace.shared_heaps

-- its parts belong together: the header's reader is past the first line; the children stand behind the header's processes, and each has
-- a name; and there is none before a process
pub record IsReader (r : ReaderState) : Type 0 where
  pub past : r.header.place ≢ Version
  pub begins : r.begun ≡ false → r.header.place ≡ Kernel
  pub waits : r.begun ≡ false → r.course.lines ≡ []
  pub header : IsNamed r.header.said
  pub behind : r.course.family.first ≡ length r.header.said.trace.procs
  pub named : length r.child_names ≡ length r.course.family.parents
  pub grown : has_process r.header.place ≡ false → length r.course.family.parents ≡ 0

-- the header may grow here
abbrev pub IsHeaderPlace : Place → Type 0
IsHeaderPlace place = (place ≡ Version → ⊥) × (place ≡ Operations → ⊥)

-- the line declares no process behind a child
abbrev pub IsOfHeader : Script → List Text → Type 0
IsOfHeader s ws = IsTrue (has_no_child s || bytes_eq (word_at ws 0) (codes "shared"))

-- the process of that name, where one is declared
abbrev pub process_of_name : Script → Text → Option Pid
process_of_name s w = if declares (process_names s) w then Some (process_named s w) else None

-- that reason applies beside the answer; the lower one counts
abbrev pub IsAlsoRefused : Reason → Result (Unit {0}) LineError → ScriptLineError → Type 0
IsAlsoRefused reason (Ok done) e = e ≡ line.Bad (OfTrace reason)
IsAlsoRefused reason (Err (trace.NoMemory refused)) e = e ≡ line.NoMemory refused
IsAlsoRefused reason (Err (trace.Bad other)) e = e ≡ line.Bad (lower (OfTrace reason) (OfTrace other))

-- memory ran out, or the line is bad by that reason
abbrev pub RefusesLine : ScriptLineError → Judged → Type 0
RefusesLine (line.NoMemory refused) judged = Unit {0}
RefusesLine (line.Bad reason) judged = judged ≡ Err reason

-- the line was taken, which leads to after, or it is refused
abbrev pub IsJudged : Result (Unit {0}) ScriptLineError → SoFar → Judged → Type 0
IsJudged (Ok done) after judged = judged ≡ Ok after
IsJudged (Err e) after judged = RefusesLine e judged

-- memory ran out, or that is the first bad line, and its lowest reason
abbrev pub Refuses : {A : Type 0} → ScriptError → Result A BadLine → Type 0
Refuses (script.NoMemory refused) judged = Unit {0}
Refuses (script.Bad line reason) judged = judged ≡ Err (record { line = line; reason = reason })

-- the lines were read, which leads to after, and the line behind them has the number next
abbrev pub ReadsLines : Result ℕ ScriptError → SoFar → Result SoFar BadLine → ℕ → Type 0
ReadsLines (Ok n) after judged next = (judged ≡ Ok after) × (n ≡ next)
ReadsLines (Err e) after judged next = Refuses e judged

-- memory ran out, or that is the first bad line of the bytes, and the lowest reason that applies to it
abbrev pub IsRefused : Text → ScriptError → Type 0
IsRefused bytes (script.NoMemory refused) = Unit {0}
IsRefused bytes (script.Bad line reason) = IsBad bytes line reason
