use Rattle.std.proofs.Common.{subst, Option, sym}
use Rattle.std.specs.Prelude.{IfSome}
use Rattle.k_types.specs.Known.{IsKnownName}
use Rattle.k_types.specs.declared.names.Name.{Name}
use Rattle.k_laws.proofs.Held.{held_known}
use Rattle.k_solo.proofs.viewing.PlainEndView.reg.Goals as goal

pub returns-clause-known : goal.returns-clause-known
returns-clause-known c =
    let m = c.self.inside.lists in
    rw (← c.self.view_is)
    (subst (λ (r : Option Name). IfSome r (IsKnownName m.setup)) (sym c.register.ensures)
    (held_known m.setup m.state c.args.pid.0 c.args.r.0 c.self.invariant.shown.machine.sound))
