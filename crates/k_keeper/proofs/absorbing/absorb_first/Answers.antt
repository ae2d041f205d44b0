use Rattle.k_keeper.proofs.Absorbed.{first_absorbed, first_kept, first_one}
use Rattle.k_keeper.proofs.absorbing.absorb_first.Goals as goal

pub returns-clause-kept : goal.returns-clause-kept
returns-clause-kept c =
    first_kept c.args.host.now c.args.left c.requires.kept c.args.id c.requires.some c.requires.first c.absorb-came.new.self c.left_after.result c.absorb-came.result c.serves.ensures c.absorb-came.ensures.done c.absorb-came.ensures.why
    c.left_after.ensures

pub returns-clause-absorbed : goal.returns-clause-absorbed
returns-clause-absorbed c =
    first_absorbed c.args.host.now c.args.left c.requires.kept c.args.id c.requires.some c.requires.first c.absorb-came.new.self c.left_after.result c.absorb-came.result c.absorb-came.ensures.done c.absorb-came.ensures.why c.left_after.ensures

pub returns-clause-one : goal.returns-clause-one
returns-clause-one c = first_one c.args.host.now c.args.left c.requires.kept c.args.id c.requires.some c.requires.first c.left_after.result c.absorb-came.result c.absorb-came.ensures.why c.left_after.ensures
