use Rattle.std.proofs.Common.{◌+◌, ◌==◌, Some, option_map, sym, ap, ◌∙◌}
use Rattle.k_types.specs.declared.event.Reply.TheVariants.{Value}
use Rattle.k_types.specs.declared.names.Pid.{Pid}
use Rattle.k_types.specs.Names.{name_of}
use Rattle.k_laws.specs.PartUpdates.{held_in}
use Rattle.k_space.specs.Objects.{content_of}
use Rattle.k_process.specs.Locals.{int_answer}
use Rattle.k_process.proofs.Fields.{get_answered}
use Rattle.k_process.proofs.doing.get.Goals as goal

pub returns : goal.returns
returns c =
    c.int_answer.ensures
    ∙ ap (λ n. int_answer (option_map content_of c.found-found.result) (Some (Value n))) c.number_found.ensures
    ∙ get_answered c.args.cell.now.value c.args.cell.now.pid.0 (held_in c.args.cell.now.value.process c.args.base.0) (name_of c.in-Some.at) c.args.field (option_map content_of c.found-found.result) c.in-Some.ensures
    (sym (c.if-not-lies_in.ensures ∙ ap (λ (q : Pid). c.in-Some.at.seg.0 == q.0 + 1) c.pid.ensures)) c.found-found.ensures
