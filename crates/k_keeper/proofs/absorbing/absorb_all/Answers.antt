use Rattle.std.proofs.Common.{sym, arith}
use Rattle.k_keeper.proofs.Absorbed.{absorbed_none, absorbed_then, two_left}
use Rattle.k_keeper.proofs.absorbing.absorb_all.Goals as goal

pub loop-id-init : goal.loop-id-init
loop-id-init c = record { kept = c.requires.kept; absorbed = absorbed_none c.args.host.now c.args.left }

pub absorb_first-rest-requires-clause-kept : goal.absorb_first-rest-requires-clause-kept
absorb_first-rest-requires-clause-kept c = c.loop-id.invariant.kept

pub absorb_first-rest-requires-clause-some : goal.absorb_first-rest-requires-clause-some
absorb_first-rest-requires-clause-some c =
    let two = two_left c.args.host.now c.loop-id.host c.args.left c.loop-id.rest c.loop-id.invariant.absorbed c.loop-id.invariant.kept.serves c.requires.enough in
    omega (arith, two)

pub absorb_first-rest-requires-clause-first : goal.absorb_first-rest-requires-clause-first
absorb_first-rest-requires-clause-first c = sym c.in-Some.ensures

pub loop-id-preserved : goal.loop-id-preserved
loop-id-preserved c = record {
  kept = c.absorb_first-rest.ensures.kept;
  absorbed = absorbed_then c.args.host.now c.loop-id.host c.absorb_first-rest.new.host c.args.left c.loop-id.rest c.absorb_first-rest.result c.loop-id.invariant.absorbed c.absorb_first-rest.ensures.absorbed;
}

pub loop-id-smaller : goal.loop-id-smaller
loop-id-smaller c = let one = c.absorb_first-rest.ensures.one in omega (arith, one)

pub returns-clause-kept : goal.returns-clause-kept
returns-clause-kept c = c.loop-id.invariant.kept

pub returns-clause-absorbed : goal.returns-clause-absorbed
returns-clause-absorbed c = c.loop-id.invariant.absorbed

pub returns-clause-none_left : goal.returns-clause-none_left
returns-clause-none_left c = sym c.in_default.ensures

pub returns-clause-enough : goal.returns-clause-enough
returns-clause-enough c = two_left c.args.host.now c.loop-id.host c.args.left c.loop-id.rest c.loop-id.invariant.absorbed c.loop-id.invariant.kept.serves c.requires.enough
