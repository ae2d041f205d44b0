use Rattle.std.proofs.Common.{◌∙◌, Result, Ok, Err, ap, arith, subst}
use Rattle.std.specs.Prelude.{IfOk}
use Rattle.k_trace.specs.Meaning.{meaning_of}
use Rattle.k_solo.specs.Runs.{Run}
use Rattle.k_check.specs.Walks.{IsWalk, Walked}
use Rattle.k_check.proofs.Rooms.{few_events}
use Rattle.k_check.proofs.Walks.{known_here, run_here}
use Rattle.k_check.proofs.walking.Walk.into_end.Goals as goal

ok_more : {T E : Type 0} (r : Result T E) (P Q : T → Type 0) → ((v : T) → P v → Q v) → IfOk r P → IfOk r Q
ok_more (Ok v) P Q more h = more v h
ok_more (Err e) P Q more h = tt

pub of-requires : goal.of-requires
of-requires c =
    let few = few_events (meaning_of c.self.inside.trace.now).trace c.self.inside.events.items c.self.invariant.is_trace.rules c.self.invariant.begun in
    record { known = known_here (record { trace = meaning_of c.self.inside.trace.now; history = c.self.inside.events.items }) c.self.inside.state c.self.invariant; few = omega (arith, few) }

pub returns : goal.returns
returns c =
    let walk : IsWalk c.args.self c.self.inside.state = subst (λ (w : Walked). IsWalk w c.self.inside.state) c.self.view_is c.self.invariant in
    ok_more c.of.result _ _
    (λ end is. run_here c.args.self c.self.inside.state end walk (is ∙ ap (λ (w : Walked). let r : Run = record { machine = c.self.inside.state; events = w.history } in r) c.self.view_is)) c.of.ensures
