-- The tree machine: the processes and limits are those of the header and of the children that were spawned and not reaped.
use Rattle.std.specs.Prelude.{ℕ, ◌==◌, not, true, List, [], ◌∷◌, ◌++◌, filter, map, Option, Some, None, if◌then◌else◌}
use Rattle.k_types.specs.declared.event.Fault.TheVariants.{LimitFull}
use Rattle.k_types.specs.declared.event.Reply.{Reply}
use Rattle.k_types.specs.declared.event.Reply.TheVariants.{Done, Refused}
use Rattle.k_types.specs.declared.setup.LimitRow.{LimitRow}
use Rattle.k_types.specs.Effects.{after_kill}
use Rattle.k_types.specs.FileOrder.{events_of}
use Rattle.k_types.specs.Limits.{full_limit}
use Rattle.k_types.specs.Names.{among}
use Rattle.k_types.specs.Replies.{reply_to}
use Rattle.k_types.specs.State.{State, opening}
use Rattle.k_types.specs.Steps.{run}
use Rattle.k_types.specs.Trace.{Trace}
use Rattle.k_types.specs.Updates.{set_max}
use Rattle.k_spawn.specs.declared.script.Deed.{Deed}
use Rattle.k_spawn.specs.declared.script.Deed.TheVariants.{Does, Spawns, Reaps}
use Rattle.k_spawn.specs.declared.script.ScriptLine.{ScriptLine}
use Rattle.k_spawn.specs.Families.{children, reaped_with}
use Rattle.k_spawn.specs.Scripts.{Script, family, limit_for}
use Rattle.k_spawn.specs.Translation.{child_row, translation}

-- a state of the tree machine: a state of the one-thread machine, and the children that are there
pub record Tree : Type 0 where
  pub state : State
  pub there : List ℕ

-- a limit outside the tree: it is below no limit, so it is in no use and on no path
abbrev pub taken_out : LimitRow
taken_out = record { parent = None; hard = true; max = 0 }

-- the limit of a child, where the child is there
abbrev pub row_there : Script → List ℕ → ℕ → LimitRow
row_there s there c = if among c there then child_row s c else taken_out

-- the trace whose steps the tree machine takes while these children are there
abbrev pub trace_there : Script → List ℕ → Trace
trace_there s there = record (translation s).trace { limits = s.header.trace.limits ++ map (row_there s there) (children (family s)) }

-- before the first line no child is there
abbrev pub first_tree : Script → Tree
first_tree s = record { state = opening (trace_there s []); there = [] }

-- the first limit from the parent's upwards where so much does not fit
abbrev pub full_at : Script → Tree → ℕ → ℕ → Option ℕ
full_at s t parent max = full_limit (trace_there s t.there) t.state (limit_for s parent) max

-- what a spawn is answered
abbrev pub spawn_reply : Option ℕ → Reply
spawn_reply None = Done
spawn_reply (Some full) = Refused (LimitFull (record { 0 = full }))

-- the maximum that the child gets
abbrev pub given : Option ℕ → ℕ → ℕ
given None max = max
given (Some full) max = 0

-- the child is there, on a hard limit of that maximum
abbrev pub after_spawn : Script → ℕ → ℕ → Tree → Tree
after_spawn s c max t = record { state = set_max (limit_for s c) max t.state; there = c ∷ t.there }

-- the child has ended, and its limit is gone; nothing where it is not there
abbrev pub after_reap : Script → Tree → ℕ → Tree
after_reap s t c =
    if among c t.there
    then record { state = set_max (limit_for s c) 0 (after_kill (trace_there s t.there) c t.state); there = filter (λ d. not (d == c)) t.there }
    else t

-- these children have ended, one after the other
abbrev pub after_reaps : Script → Tree → List ℕ → Tree
after_reaps s t [] = t
after_reaps s t (c ∷ cs) = after_reaps s (after_reap s t c) cs

-- what a line of the process is answered
abbrev pub reply_in_tree : Script → Tree → ℕ → Deed → Reply
reply_in_tree s t p (Does op) = reply_to (trace_there s t.there) t.state p op
reply_in_tree s t p (Spawns c max) = spawn_reply (full_at s t p max)
reply_in_tree s t p (Reaps c) = Done

-- what a line of the process leaves: an operation with what comes before and behind it in the order of the file
abbrev pub tree_after : Script → Tree → ℕ → Deed → Tree
tree_after s t p (Does op) = record t { state = run (trace_there s t.there) t.state (events_of (trace_there s t.there) t.state p (Some op)) }
tree_after s t p (Spawns c max) = after_spawn s c.0 (given (full_at s t p max) max) t
tree_after s t p (Reaps c) = after_reaps s t (reaped_with (family s) c.0)

-- what lines leave
abbrev pub tree_after_lines : Script → Tree → List ScriptLine → Tree
tree_after_lines s t [] = t
tree_after_lines s t (l ∷ ls) = tree_after_lines s (tree_after s t l.pid.0 l.deed) ls

-- what lines are answered
abbrev pub tree_replies : Script → Tree → List ScriptLine → List Reply
tree_replies s t [] = []
tree_replies s t (l ∷ ls) = reply_in_tree s t l.pid.0 l.deed ∷ tree_replies s (tree_after s t l.pid.0 l.deed) ls
