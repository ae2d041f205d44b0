-- Worked scripts: their bytes, the scripts that these are, and the report of their translations.
use Rattle.std.specs.Prelude.{ℕ, List, [], ◌∷◌, ◌++◌, map, codes, None, true}
use Rattle.k_types.specs.declared.names.Pid.{Pid}
use Rattle.k_types.specs.declared.names.Field.TheVariants.{Ref, Int}
use Rattle.k_types.specs.declared.op.Op.TheVariants.{New}
use Rattle.k_types.specs.FileOrder.{file_order}
use Rattle.k_trace.specs.Words.{Text}
use Rattle.k_trace.specs.Named.{NamedTrace}
use Rattle.k_text.specs.EventLines.{reply_words}
use Rattle.k_text.specs.Report.{report_text, text_over}
use Rattle.k_text.specs.Worked.{of_lines}
use Rattle.k_spawn.specs.declared.script.Deed.TheVariants.{Does, Spawns, Reaps}
use Rattle.k_spawn.specs.declared.script.ScriptLine.{ScriptLine}
use Rattle.k_spawn.specs.Scripts.{Script}
use Rattle.k_spawn.specs.Translation.{translation}
use Rattle.k_spawn.specs.Agreement.{translated}
use Rattle.k_spawn.specs.Tree.{Tree, first_tree, trace_there, tree_after_lines, tree_replies}

-- the report of the translation in the order of the file: what `tree` writes
abbrev pub tree_text : Script → Text
tree_text s = report_text (translation s).names (translated s) (file_order (translated s))

-- the tree machine after all lines
abbrev last_tree : Script → Tree
last_tree s = tree_after_lines s (first_tree s) s.lines

-- the same report over what the tree machine has at the end
abbrev pub text_by_tree : Script → Text
text_by_tree s = text_over (translation s).names (trace_there s (last_tree s).there) (file_order (translated s)) (last_tree s).state

-- what the tree machine answers each line, as words
abbrev pub words_by_tree : Script → List (List Text)
words_by_tree s = map (reply_words (translation s).names) (tree_replies s (first_tree s) s.lines)

-- the process of that number
abbrev number : ℕ → Pid
number p = record { 0 = p }

-- the process makes an object, and its register has the name
abbrev makes : ℕ → ℕ → ScriptLine
makes p r = record { pid = number p; deed = Does (New (record { 0 = r }) (record { 0 = 0 })) }

-- the process spawns the child with that maximum
abbrev spawning : ℕ → ℕ → ℕ → ScriptLine
spawning p c max = record { pid = number p; deed = Spawns (number c) max }

-- the process reaps the child
abbrev reaping : ℕ → ℕ → ScriptLine
reaping p c = record { pid = number p; deed = Reaps (number c) }

-- one process on a root limit of so many bytes, and nothing else
abbrev one_process : ℕ → NamedTrace
one_process max = record {
  names = record { types = codes "Node" ∷ []; limits = codes "root" ∷ []; procs = codes "p" ∷ []; shared = [] };
  trace = record {
    version = 1;
    ceiling = 32;
    dir_fields = 2;
    types = (Ref ∷ Ref ∷ Int ∷ []) ∷ [];
    limits = record { parent = None; hard = true; max = max } ∷ [];
    procs = record { 0 = 0 } ∷ [];
    shared_heaps = 0;
    operations = [] ∷ [];
    order = [];
  };
}

-- A child takes what its limit has, and no more. Its parent has no room beside what the child reserves, and has room again once it
-- has reaped the child.
abbrev pub full_child : Script
full_child = record {
  header = one_process 200;
  child_names = codes "c" ∷ [];
  parents = number 0 ∷ [];
  lines =
      makes 0 0 ∷ spawning 0 1 80 ∷ makes 1 0 ∷ makes 1 1 ∷ makes 1 2 ∷ makes 0 1 ∷ makes 0 2 ∷ makes 0 3 ∷ reaping 0 1 ∷ makes 0 3 ∷ [];
}

-- its lines up to the reaping
abbrev before_reaping : List Text
before_reaping =
    codes "spawn 1"
    ∷ codes "kernel 32 2"
    ∷ codes "type Node ref ref int"
    ∷ codes "limit root 200"
    ∷ codes "proc p root"
    ∷ codes "child c p"
    ∷ codes "p new r0 Node"
    ∷ codes "p spawn c 80"
    ∷ codes "c new r0 Node"
    ∷ codes "c new r1 Node"
    ∷ codes "c new r2 Node"
    ∷ codes "p new r1 Node"
    ∷ codes "p new r2 Node"
    ∷ codes "p new r3 Node"
    ∷ []

-- its bytes
abbrev pub full_child_text : Text
full_child_text = of_lines (before_reaping ++ codes "p reap c" ∷ codes "p new r3 Node" ∷ [])

-- what the tree machine answers
abbrev pub full_child_replies : List (List Text)
full_child_replies =
    (codes "p.1" ∷ [])
    ∷ (codes "ok" ∷ [])
    ∷ (codes "c.1" ∷ [])
    ∷ (codes "c.2" ∷ [])
    ∷ (codes "fault" ∷ codes "LimitFull" ∷ codes "c" ∷ [])
    ∷ (codes "p.2" ∷ [])
    ∷ (codes "p.3" ∷ [])
    ∷ (codes "fault" ∷ codes "LimitFull" ∷ codes "root" ∷ [])
    ∷ (codes "ok" ∷ [])
    ∷ (codes "p.4" ∷ [])
    ∷ []

-- its report
abbrev pub full_child_report : Text
full_child_report = of_lines (
    codes "report 1"
    ∷ codes "p new r0 Node = p.1"
    ∷ codes "p resize c 80 = ok"
    ∷ codes "c new r0 Node = c.1"
    ∷ codes "c new r1 Node = c.2"
    ∷ codes "c new r2 Node = fault LimitFull c"
    ∷ codes "p new r1 Node = p.2"
    ∷ codes "p new r2 Node = p.3"
    ∷ codes "p new r3 Node = fault LimitFull root"
    ∷ codes "p kill c = ok"
    ∷ codes "p resize c 0 = ok"
    ∷ codes "p new r3 Node = p.4"
    ∷ codes "graph"
    ∷ codes "kernel.1 kernel directory null null"
    ∷ codes "p.1 p Node null null 0"
    ∷ codes "p.2 p Node null null 0"
    ∷ codes "p.3 p Node null null 0"
    ∷ codes "p.4 p Node null null 0"
    ∷ codes "c.1 kernel Node null null 0"
    ∷ codes "c.2 kernel Node null null 0"
    ∷ codes "roots"
    ∷ codes "p r0 p.1"
    ∷ codes "p r1 p.2"
    ∷ codes "p r2 p.3"
    ∷ codes "p r3 p.4"
    ∷ codes "exits"
    ∷ codes "shares"
    ∷ codes "faults"
    ∷ codes "p 1"
    ∷ codes "c 1"
    ∷ codes "charges"
    ∷ codes "kernel 112 of 32"
    ∷ codes "limit root 160 of 200"
    ∷ codes "limit c 0 of 0"
    ∷ codes "process p 160"
    ∷ codes "process c 0"
    ∷ codes "end"
    ∷ []
    )

-- the same where the child asks for its own reaping
abbrev pub reaps_itself_text : Text
reaps_itself_text = of_lines (before_reaping ++ codes "c reap c" ∷ codes "p new r3 Node" ∷ [])

-- the same where the child goes on after it was reaped
abbrev pub goes_on_text : Text
goes_on_text = of_lines (before_reaping ++ codes "p reap c" ∷ codes "p new r3 Node" ∷ codes "c drop r0" ∷ [])

-- the same where the process spawns itself, which is nobody's child
abbrev pub spawns_itself_text : Text
spawns_itself_text = of_lines (before_reaping ++ codes "p spawn p 5" ∷ [])

-- Children of children. One spawn is refused, since it passes what the parent has left: that child runs with a maximum of 0. The reaping
-- of the first child ends all below it before it.
abbrev pub whole_tree : Script
whole_tree = record {
  header = one_process 400;
  child_names = codes "a" ∷ codes "b" ∷ codes "d" ∷ codes "e" ∷ [];
  parents = number 0 ∷ number 1 ∷ number 1 ∷ number 2 ∷ [];
  lines =
      spawning 0 1 300 ∷ spawning 1 2 200 ∷ spawning 2 4 40 ∷ makes 4 0 ∷ spawning 1 3 101 ∷ makes 3 0 ∷ reaping 0 1 ∷ makes 0 0 ∷ [];
}

-- its bytes
abbrev pub whole_tree_text : Text
whole_tree_text = of_lines (
    codes "spawn 1"
    ∷ codes "kernel 32 2"
    ∷ codes "type Node ref ref int"
    ∷ codes "limit root 400"
    ∷ codes "proc p root"
    ∷ codes "child a p"
    ∷ codes "child b a"
    ∷ codes "child d a"
    ∷ codes "child e b"
    ∷ codes "p spawn a 300"
    ∷ codes "a spawn b 200"
    ∷ codes "b spawn e 40"
    ∷ codes "e new r0 Node"
    ∷ codes "a spawn d 101"
    ∷ codes "d new r0 Node"
    ∷ codes "p reap a"
    ∷ codes "p new r0 Node"
    ∷ []
    )

-- its report
abbrev pub whole_tree_report : Text
whole_tree_report = of_lines (
    codes "report 1"
    ∷ codes "p resize a 300 = ok"
    ∷ codes "a resize b 200 = ok"
    ∷ codes "b resize e 40 = ok"
    ∷ codes "e new r0 Node = e.1"
    ∷ codes "a resize d 101 = fault LimitFull a"
    ∷ codes "d new r0 Node = fault LimitFull d"
    ∷ codes "p kill e = ok"
    ∷ codes "p resize e 0 = ok"
    ∷ codes "p kill b = ok"
    ∷ codes "p resize b 0 = ok"
    ∷ codes "p kill d = ok"
    ∷ codes "p resize d 0 = ok"
    ∷ codes "p kill a = ok"
    ∷ codes "p resize a 0 = ok"
    ∷ codes "p new r0 Node = p.1"
    ∷ codes "graph"
    ∷ codes "kernel.1 kernel directory null null"
    ∷ codes "p.1 p Node null null 0"
    ∷ codes "e.1 kernel Node null null 0"
    ∷ codes "roots"
    ∷ codes "p r0 p.1"
    ∷ codes "exits"
    ∷ codes "shares"
    ∷ codes "faults"
    ∷ codes "p 0"
    ∷ codes "a 1"
    ∷ codes "b 0"
    ∷ codes "d 1"
    ∷ codes "e 0"
    ∷ codes "charges"
    ∷ codes "kernel 72 of 32"
    ∷ codes "limit root 40 of 400"
    ∷ codes "limit a 0 of 0"
    ∷ codes "limit b 0 of 0"
    ∷ codes "limit d 0 of 0"
    ∷ codes "limit e 0 of 0"
    ∷ codes "process p 40"
    ∷ codes "process a 0"
    ∷ codes "process b 0"
    ∷ codes "process d 0"
    ∷ codes "process e 0"
    ∷ codes "end"
    ∷ []
    )
