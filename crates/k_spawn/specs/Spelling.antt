-- The one spelling of a script.
use Rattle.std.specs.Prelude.{List, [], ◌∷◌, ◌++◌, map, decimal, codes}
use Rattle.k_types.specs.declared.names.Pid.{Pid}
use Rattle.k_trace.specs.Words.{Text, word_at, text_of}
use Rattle.k_trace.specs.Spelling.{declarations, type_words, limit_words, proc_words, shared_words, op_words}
use Rattle.k_spawn.specs.declared.script.Deed.{Deed}
use Rattle.k_spawn.specs.declared.script.Deed.TheVariants.{Does, Spawns, Reaps}
use Rattle.k_spawn.specs.declared.script.ScriptLine.{ScriptLine}
use Rattle.k_spawn.specs.Scripts.{Script, process_names}

-- the words of a child
abbrev pub child_words : Script → Text → Pid → List Text
child_words s name parent = codes "child" ∷ name ∷ word_at (process_names s) parent.0 ∷ []

-- the words of what a line does
abbrev pub deed_words : Script → Deed → List Text
deed_words s (Does op) = op_words s.header.names op
deed_words s (Spawns c max) = codes "spawn" ∷ word_at (process_names s) c.0 ∷ decimal max ∷ []
deed_words s (Reaps c) = codes "reap" ∷ word_at (process_names s) c.0 ∷ []

-- the words of a line
abbrev pub line_words : Script → ScriptLine → List Text
line_words s l = word_at (process_names s) l.pid.0 ∷ deed_words s l.deed

-- the words of each line
abbrev pub words : Script → List (List Text)
words s =
    (codes "spawn" ∷ codes "1" ∷ [])
    ∷ (codes "kernel" ∷ decimal s.header.trace.ceiling ∷ decimal s.header.trace.dir_fields ∷ [])
    ∷ declarations type_words s.header.names.types s.header.trace.types
    ++ declarations (limit_words s.header.names) s.header.names.limits s.header.trace.limits
    ++ declarations (proc_words s.header.names) s.header.names.procs s.header.trace.procs
    ++ declarations (child_words s) s.child_names s.parents
    ++ map shared_words s.header.names.shared
    ++ map (line_words s) s.lines

-- the whole text
abbrev pub text : Script → Text
text s = text_of (words s)
