use Rattle.k_text.proofs.Known.{next_known}
use Rattle.k_solo.proofs.viewing.PlainEndView.next_object.Goals as goal

pub returns-clause-known : goal.returns-clause-known
returns-clause-known c =
    let m = c.self.inside.lists in
    rw (← c.self.view_is)
    (next_known m.setup m.state c.self.invariant.shown.machine.sound c.args.after c.next_object.result c.next_object.ensures)
