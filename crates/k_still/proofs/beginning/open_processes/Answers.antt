use Rattle.std.proofs.Common.{◌≡◌, [], rules, sym, ap, ◌∙◌, subst, length, arith, List, Vec, Global}
use Rattle.std.specs.declared.collections.VecDeque.{VecDeque}
use Rattle.k_space.specs.Objects.{BodyValue}
use Rattle.k_types.specs.declared.names.Pid.{Pid}
use Rattle.k_types.specs.declared.op.Op.{Op}
use Rattle.k_process.specs.declared.process.Process.{Process}
use Rattle.k_still.specs.Opening.{ArePending}
use Rattle.k_still.proofs.Begun.{process_can_begin, process_can_open, processes_go_on, processes_opened}
use Rattle.k_still.proofs.beginning.open_processes.Goals as goal

pub loop-own-init : goal.loop-own-init
loop-own-init g c =
    subst (λ (ops : List (Vec Op Global)). ArePending g.world' c.args.setup.now ops c.from_vec-bodies.result.items c.args.beginnings.now c.in_ok-processes.processes.items) (sym c.from_vec-ops.ensures.items)
    (subst (λ (bodies : List (VecDeque BodyValue Global)). ArePending g.world' c.args.setup.now c.args.ops.items bodies c.args.beginnings.now c.in_ok-processes.processes.items) (sym c.from_vec-bodies.ensures.items)
    (subst (ArePending g.world' c.args.setup.now c.args.ops.items c.args.bodies.items c.args.beginnings.now) (sym c.in_ok-processes.ensures.items) c.requires))

pub take_next-note-requires : goal.take_next-note-requires
take_next-note-requires g c =
    process_can_begin g.world' c.args.setup.now c.loop-own.ops.items c.pop_front.new.self.items c.in-Some.own c.loop-own.bodies.items c.pop_front-in-Some.new.self.items c.in-Some-pop_front.made c.loop-own.beginnings
    c.loop-own.processes.items c.loop-own.invariant c.in-Some.ensures.items

pub open_process-requires : goal.open_process-requires
open_process-requires g c =
    process_can_open g.world' c.args.setup.now c.loop-own.ops.items c.pop_front.new.self.items c.in-Some.own c.loop-own.bodies.items c.pop_front-in-Some.new.self.items c.in-Some-pop_front.made c.loop-own.beginnings
    c.loop-own.processes.items c.loop-own.invariant c.in-Some.ensures.items c.in-Some-pop_front.ensures.items c.take_next-note.new.beginnings c.take_next-note.result.0 c.take_next-note.result.1 c.take_next-note.ensures
    (record { 0 = c.len-in-Some.result }) (omega (arith, c.len-in-Some.ensures))

pub loop-own-preserved : goal.loop-own-preserved
loop-own-preserved g c =
    let at : c.len-in-Some.result ≡ length c.loop-own.processes.items = omega (arith, c.len-in-Some.ensures) in
    subst (ArePending g.world' c.args.setup.now c.pop_front.new.self.items c.pop_front-in-Some.new.self.items c.take_next-note.new.beginnings) (sym {A = List Process} c.in_ok-push.ensures.items)
    (processes_go_on g.world' c.args.setup.now c.loop-own.ops.items c.pop_front.new.self.items c.in-Some.own c.loop-own.bodies.items c.pop_front-in-Some.new.self.items c.in-Some-pop_front.made c.loop-own.beginnings
    c.loop-own.processes.items c.loop-own.invariant c.in-Some.ensures.items c.in-Some-pop_front.ensures.items c.take_next-note.new.beginnings c.take_next-note.result.0 c.take_next-note.result.1 c.take_next-note.ensures
    c.in_ok-open_process.field-0 c.in_ok-open_process.ensures.0 (ap (λ (pid : Pid). pid.0) c.in_ok-open_process.ensures.1 ∙ at))

pub loop-own-smaller : goal.loop-own-smaller
loop-own-smaller g c = omega (arith, ap length c.in-Some.ensures.items)

pub returns : goal.returns
returns g c =
    let empty : c.loop-own.ops.items ≡ [] = search rules in
    processes_opened g.world' c.args.setup.now c.loop-own.ops.items c.loop-own.bodies.items c.loop-own.beginnings c.loop-own.processes.items (ap length empty) c.loop-own.invariant
