use Rattle.std.proofs.Common.{◌+◌, ◌==◌, IfSome, Option, refl, sym, ap, subst, ◌∙◌}
use Rattle.k_types.specs.declared.event.Reply.{Reply}
use Rattle.k_types.specs.declared.names.Pid.{Pid}
use Rattle.k_types.specs.Names.{name_of}
use Rattle.k_types.specs.State.{Holds}
use Rattle.k_laws.specs.PartUpdates.{held_in}
use Rattle.k_commit.specs.k_heap.Looks.{found_among}
use Rattle.k_process.specs.Locals.{IsChanged, written_through}
use Rattle.k_process.proofs.Fields.{put_answered, put_changed}
use Rattle.k_process.proofs.doing.put.Goals as goal

pub returns-clause-answer : goal.returns-clause-answer
returns-clause-answer c =
    let held = found_among c.args.cell.now.value.objects (name_of c.in-Some.at) c.args.field in
    c.after_put.ensures held c.put.ensures.kind
    ∙ put_answered c.args.cell.now.value c.args.cell.now.pid.0 (held_in c.args.cell.now.value.process c.args.base.0) (name_of c.in-Some.at) c.args.field held c.in-Some.ensures
    (sym (c.if-not-lies_in.ensures ∙ ap (λ (q : Pid). c.in-Some.at.seg.0 == q.0 + 1) c.pid.ensures)) refl

pub returns-clause-some : goal.returns-clause-some
returns-clause-some c =
    let held = found_among c.args.cell.now.value.objects (name_of c.in-Some.at) c.args.field in
    subst
    (λ (r : Option Reply). IfSome r (λ said. IsChanged c.args.cell.now c.put.new.self said (written_through (held_in c.args.cell.now.value.process c.args.base.0) c.args.field (Holds c.args.number) c.args.cell.now.value)))
    (sym (c.after_put.ensures held c.put.ensures.kind))
    (put_changed c.args.cell.now c.put.new.self (held_in c.args.cell.now.value.process c.args.base.0) (name_of c.in-Some.at) c.args.field held c.in-Some.ensures refl c.args.number c.put.ensures.put)
