-- The translation and the tree machine, line by line.
use Rattle.std.specs.Prelude.{◌≡◌, ℕ, ◌<◌, ◌+◌, ◌-◌, ◌||◌, not, nat_lt, Bool, IsTrue, IsFalse, List, [], ◌∷◌, ◌++◌, length, replicate, slice_index_or, None, Some, Ok}
use Rattle.std.specs.List.{AllByRecursion}
use Rattle.k_types.specs.declared.event.Event.{Event}
use Rattle.k_types.specs.declared.event.Event.TheVariants.{Done, Ended, Absorbed, Closing}
use Rattle.k_types.specs.declared.event.Reply.{Reply}
use Rattle.k_types.specs.declared.op.Op.{Op}
use Rattle.k_types.specs.Bounds.{register_count}
use Rattle.k_types.specs.FileOrder.{events_of, file_order, last_events}
use Rattle.k_types.specs.Limits.{is_ancestor, use_of}
use Rattle.k_types.specs.Names.{among}
use Rattle.k_types.specs.Owners.{charge_of}
use Rattle.k_types.specs.State.{State, opening}
use Rattle.k_types.specs.Steps.{run}
use Rattle.k_types.specs.Trace.{Trace, process_count}
use Rattle.k_trace.specs.Words.{Text}
use Rattle.k_trace.specs.Rules.{IsTrace}
use Rattle.k_spawn.specs.declared.script.ScriptLine.{ScriptLine}
use Rattle.k_spawn.specs.Families.{is_child, children}
use Rattle.k_spawn.specs.Scripts.{Script, family, limit_for}
use Rattle.k_spawn.specs.Translation.{translation, operations_of_deed}
use Rattle.k_spawn.specs.Judgement.{judgement}
use Rattle.k_spawn.specs.Tree.{Tree, first_tree, trace_there, reply_in_tree, tree_after_lines}

-- the trace of the translation
abbrev pub translated : Script → Trace
translated s = (translation s).trace

-- the events of these operations of the process, one after the other in the order of the file
abbrev pub events_for : Trace → State → ℕ → List Op → List Event
events_for trace st p [] = []
events_for trace st p (op ∷ ops) =
    let events = events_of trace st p (Some op) in
    events ++ events_for trace (run trace st events) p ops

-- the events of a line in the translation
abbrev pub line_events : Script → State → ScriptLine → List Event
line_events s st l = events_for (translated s) st l.pid.0 (operations_of_deed s l.deed)

-- the events of lines
abbrev pub events_of_lines : Script → State → List ScriptLine → List Event
events_of_lines s st [] = []
events_of_lines s st (l ∷ ls) =
    let events = line_events s st l in
    events ++ events_of_lines s (run (translated s) st events) ls

-- the state of the translation after these lines, which are its first
abbrev pub state_after_lines : Script → List ScriptLine → State
state_after_lines s lines = run (translated s) (opening (translated s)) (events_of_lines s (opening (translated s)) lines)

-- the replies among events
abbrev pub replies_in : List Event → List Reply
replies_in [] = []
replies_in (Done pid op said ∷ events) = said ∷ replies_in events
replies_in (Ended h objects bytes exits shares ∷ events) = replies_in events
replies_in (Absorbed shared ∷ events) = replies_in events
replies_in (Closing ∷ events) = replies_in events

-- the process is one of the header, or a child that is there
abbrev pub is_there : Script → List ℕ → ℕ → Bool
is_there s there p = not (is_child (family s) p) || among p there

-- the limit is one of the header, or that of a child that is there
abbrev pub is_limit_there : Script → List ℕ → ℕ → Bool
is_limit_there s there m = nat_lt m (length s.header.trace.limits) || among (process_count s.header.trace + (m - length s.header.trace.limits)) there

-- what the translation has of a child that is not there: null registers, no charge, no share, and the maximum 0
pub record IsAbsent (s : Script) (c : ℕ) (x : State) : Type 0 where
  pub registers : slice_index_or x.registers c [] ≡ replicate register_count None
  pub charge : charge_of (translated s) x c ≡ 0
  pub shares : AllByRecursion (λ e. e.process ≡ c → ⊥) x.shares
  pub maximum : slice_index_or x.maxima (limit_for s c) 0 ≡ 0

-- what both machines have in common after a line: x is the state of the translation
pub record IsSameTree (s : Script) (t : Tree) (x : State) : Type 0 where
  pub objects : x.objects ≡ t.state.objects
  pub made : x.made ≡ t.state.made
  pub registers : (p : ℕ) → IsTrue (is_there s t.there p) → slice_index_or x.registers p [] ≡ slice_index_or t.state.registers p []
  pub ended : (p : ℕ) → IsTrue (is_there s t.there p) → among p x.ended ≡ among p t.state.ended
  pub exits : x.exits ≡ t.state.exits
  pub shares : x.shares ≡ t.state.shares
  pub phases : x.phases ≡ t.state.phases
  pub uses : (m : ℕ) → m < length (translated s).limits → IsTrue (is_limit_there s t.there m) → use_of (translated s) x m ≡ use_of (trace_there s t.there) t.state m
  pub absent : (c : ℕ) → IsTrue (among c (children (family s))) → IsFalse (among c t.there) → IsAbsent s c x

-- the line changes the use of no limit but that of its process and those below it
abbrev pub StaysBelow : Script → ScriptLine → State → Type 0
StaysBelow s l x =
    (m : ℕ) → m < length (translated s).limits → IsFalse (among m (limit_for s l.pid.0 ∷ [])) → IsFalse (is_ancestor (translated s).limits (limit_for s l.pid.0) m)
    → use_of (translated s) (run (translated s) x (line_events s x l)) m ≡ use_of (translated s) x m

-- the line is answered as in the tree machine, each operation of it alike
abbrev pub AnswersAlike : Script → Tree → State → ScriptLine → Type 0
AnswersAlike s t x l = AllByRecursion (λ said. said ≡ reply_in_tree s t l.pid.0 l.deed) (replies_in (line_events s x l))

-- the tree machine before a line, and the state of the translation
abbrev pub tree_before : Script → List ScriptLine → Tree
tree_before s lines = tree_after_lines s (first_tree s) lines

-- the theorem: the order of the file goes line by line; after each line both machines have the same, each line is answered
-- alike, and what a child does changes no use but its own limit's and those below
pub record AgreesWithTree (s : Script) : Type 0 where
  pub filed : file_order (translated s) ≡ events_of_lines s (opening (translated s)) s.lines ++ last_events (translated s) (state_after_lines s s.lines)
  pub same : (first rest : List ScriptLine) → s.lines ≡ first ++ rest → IsSameTree s (tree_before s first) (state_after_lines s first)
  pub alike : (first rest : List ScriptLine) (l : ScriptLine) → s.lines ≡ first ++ l ∷ rest → AnswersAlike s (tree_before s first) (state_after_lines s first) l
  pub below : (first rest : List ScriptLine) (l : ScriptLine) → s.lines ≡ first ++ l ∷ rest → IsTrue (is_child (family s) l.pid.0) → StaysBelow s l (state_after_lines s first)

-- of every script that bytes are, the translation is a trace, which agrees with the tree machine
abbrev pub TreesAgree : Type 0
TreesAgree = (bytes : Text) (s : Script) → judgement bytes ≡ Ok s → IsTrace (translation s) × AgreesWithTree s
