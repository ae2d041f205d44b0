use Rattle.std.proofs.Common.{sym, ◌∙◌}
use Rattle.k_state.specs.Segments.{objects_in}
use Rattle.k_state.proofs.Split.{has_in}
use Rattle.k_audit.proofs.NumberedLaw.{named_there}
use Rattle.k_audit.proofs.holding.has.Goals as goal

pub returns-in-Some : goal.returns-in-Some
returns-in-Some c =
    let objects = c.args.lists.now.state.objects in
    sym (sym (has_in objects c.args.name) ∙ named_there (objects_in objects c.args.name.seg.0) _ c.args.name c.in-Some.ensures.some)

pub returns-in-None : goal.returns-in-None
returns-in-None c = sym c.in-None.ensures.none
