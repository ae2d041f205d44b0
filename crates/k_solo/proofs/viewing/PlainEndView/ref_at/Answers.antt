use Rattle.std.proofs.Common.{sym, ap, ◌∙◌}
use Rattle.k_types.specs.Known.{IsKnownName}
use Rattle.k_types.specs.Replies.{reference}
use Rattle.k_text.proofs.Known.{field_known}
use Rattle.k_solo.proofs.viewing.PlainEndView.ref_at.Goals as goal
use Rattle.k_types.proofs.Lists.{if_some}

pub returns-clause-known : goal.returns-clause-known
returns-clause-known c =
    rw (← c.self.view_is)
    (if_some (IsKnownName c.self.inside.lists.setup) c.reference.result
    (λ y e. field_known c.self.inside.lists.setup c.self.inside.lists.state c.self.invariant.shown.machine.sound c.args.name c.args.field y
    (ap reference (sym c.field_at.ensures) ∙ sym c.reference.ensures ∙ e)))
