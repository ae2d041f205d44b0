use Rattle.std.proofs.Common.{List, Bool, subst, sym}
use Rattle.k_types.specs.Names.{name_eq}
use Rattle.k_scan.specs.Notes.{HasNoted}
use Rattle.k_scan.proofs.Noted.{noted_absent, noted_one}
use Rattle.k_scan.proofs.referring.note.Goals as goal

pub returns-in-Some : goal.returns-in-Some
returns-in-Some c =
    let exits = c.args.lists.now.state.exits in
    subst (λ (new : List Bool). HasNoted exits c.args.heap (λ n. name_eq c.args.name n) c.args.noted.now new) (sym c.set.ensures)
    (noted_one exits c.args.heap c.args.name c.args.noted.now c.in-Some.at c.requires c.in-Some.ensures.some)

pub returns-in_default : goal.returns-in_default
returns-in_default c = noted_absent c.args.lists.now.state.exits c.args.heap c.args.name c.args.noted.now c.in_default.ensures.none
