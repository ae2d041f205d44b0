use Rattle.std.proofs.Common.{subst, sym}
use Rattle.k_types.specs.declared.event.Fault.{Fault}
use Rattle.k_types.specs.declared.event.Reply.TheVariants.{Refused}
use Rattle.k_types.specs.Names.{name_of}
use Rattle.k_commit.specs.Changed.{HasChanged}
use Rattle.k_own.proofs.Away.{base_there, refused_away}
use Rattle.k_own.proofs.Crossing.{at_home, home_told}
use Rattle.k_own.proofs.accesses.refuse.Goals as goal

pub link_in-at-requires-clause-there : goal.link_in-at-requires-clause-there
link_in-at-requires-clause-there g c = base_there g.before c.args.cell.now c.args.book.now c.args.op c.args.base c.requires

pub owner-requires : goal.owner-requires
owner-requires g c = at_home g.before c.args.cell.now c.args.book.now c.args.op c.requires.due c.args.base.0 (name_of c.link_in-at.result) c.link_in-at.ensures

pub commit_heap-requires : goal.commit_heap-requires
commit_heap-requires g c =
    subst (λ (fault : Fault). HasChanged g.before c.args.cell.now c.args.book.now c.args.op (Refused fault)) (sym c.fault_of-fault.ensures)
    (refused_away g.before c.args.cell.now c.args.book.now c.args.op c.args.base c.requires (name_of c.link_in-at.result) c.link_in-at.ensures c.owner.result
    (home_told g.before c.args.cell.now c.args.book.now c.args.op c.requires.due c.args.base.0 (name_of c.link_in-at.result) c.owner.result c.link_in-at.ensures c.owner.ensures))
