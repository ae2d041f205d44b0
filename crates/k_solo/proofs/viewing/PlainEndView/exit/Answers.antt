use Rattle.std.proofs.Common.{subst, sym, get_or, List}
use Rattle.k_types.specs.Known.{IsKnownName}
use Rattle.k_types.specs.declared.names.Name.{Name}
use Rattle.k_solo.specs.Runs.{Run}
use Rattle.k_plain.specs.Sounds.{IsSoundMachine}
use Rattle.k_text.proofs.Arranged.{target_known}
use Rattle.k_solo.proofs.viewing.PlainEndView.exit.Goals as goal

pub returns-clause-known : goal.returns-clause-known
returns-clause-known c =
    let m = c.args.self.now.machine in
    let sound : IsSoundMachine m = subst (λ (r : Run). IsSoundMachine r.machine) c.self.view_is c.self.invariant.shown.machine in
    subst (λ (ns : List Name). IsKnownName m.setup (get_or ns c.args.i (record { seg = record { 0 = 0 }; serial = record { 0 = 0 } }))) (sym c.targets_of.ensures)
    (target_known m.setup m.state c.args.heap c.args.i (record { seg = record { 0 = 0 }; serial = record { 0 = 0 } }) sound.sound c.requires.place)
