-- The commands of the program.
use Rattle.std.specs.Prelude.{◌≡◌, ℕ, ◌+◌, List, [], ◌∷◌, Option, Some, None, option_map, if◌then◌else◌, codes}
use Rattle.std.specs.Str.{bytes_eq}
use Rattle.k_words.specs.Numbers.{below_of}
use Rattle.k_words.specs.Words.{Text}
use Rattle.k_big.specs.Words.{objects_of}
use Rattle.k_answers.specs.declared.commands.Command.{Command}
use Rattle.k_answers.specs.declared.commands.Command.TheVariants.{Run, Replay, Check, Big, Watch, Work, Snap, Audit, Tree}

-- The command that the word alone names.
abbrev pub command_named : Text → Option Command
command_named word =
    if bytes_eq word (codes "run") then Some Run else if bytes_eq word (codes "replay") then Some Replay else if bytes_eq word (codes "check") then Some Check else if bytes_eq word (codes "work") then Some Work
    else if bytes_eq word (codes "snap") then Some Snap else if bytes_eq word (codes "audit") then Some Audit
    else if bytes_eq word (codes "tree") then Some Tree else None

-- The most samples that a watcher is asked for.
abbrev pub most_samples : ℕ
most_samples = 1000

-- The number that the word is, from 0 to the most samples; none where it is another word.
abbrev pub samples_of : Text → Option ℕ
samples_of word = below_of (most_samples + 1) word

-- The command that the word names with a number behind it: `big`, where the number is one of objects, from 1 to 5000; or `watch`, where it is
-- one of samples, from 0 to 1000.
abbrev pub command_numbered : Text → Text → Option Command
command_numbered word number =
    if bytes_eq word (codes "big") then option_map (λ objects. Big objects) (objects_of number)
    else if bytes_eq word (codes "watch") then option_map (λ samples. Watch samples) (samples_of number) else None

-- The command that the words are: one word that names it, or a word and a number. The words are those after the program's name.
abbrev pub command_of : List Text → Option Command
command_of [] = None
command_of (word ∷ []) = command_named word
command_of (word ∷ number ∷ []) = command_numbered word number
command_of (word ∷ number ∷ next ∷ words) = None

-- The words are a command.
abbrev pub IsCommand : List Text → Type 0
IsCommand words = (command : Command) × (command_of words ≡ Some command)

-- The words are no command.
abbrev pub IsNoCommand : List Text → Type 0
IsNoCommand words = command_of words ≡ None

-- The command reads a trace alone.
abbrev pub ReadsTrace : Command → Type 0
ReadsTrace Run = Unit {0}
ReadsTrace Replay = Unit {0}
ReadsTrace (Watch samples) = Unit {0}
ReadsTrace Work = Unit {0}
ReadsTrace Snap = Unit {0}
ReadsTrace _ = ⊥

-- The command reads a trace alone, runs it, and writes its report alone.
abbrev pub RunsTrace : Command → Type 0
RunsTrace Run = Unit {0}
RunsTrace Replay = Unit {0}
RunsTrace _ = ⊥

-- The command has processes work on threads, and waits for them and for locks.
abbrev pub Waits : Command → Type 0
Waits Run = Unit {0}
Waits (Big objects) = Unit {0}
Waits (Watch samples) = Unit {0}
Waits Work = Unit {0}
Waits Replay = ⊥
Waits Check = ⊥
Waits Snap = ⊥
Waits Audit = ⊥
Waits Tree = ⊥

-- The words are no command that waits.
abbrev pub WaitsForNobody : List Text → Type 0
WaitsForNobody words = (command : Command) → command_of words ≡ Some command → ¬ Waits command

-- The command reads the source.
abbrev pub ReadsSource : Command → Type 0
ReadsSource (Big objects) = ⊥
ReadsSource _ = Unit {0}

-- The words are a command that reads the source.
abbrev pub IsReading : List Text → Type 0
IsReading words = (command : Command) × (command_of words ≡ Some command) × ReadsSource command
