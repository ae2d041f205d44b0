use Rattle.std.proofs.Common.{refl}
use Rattle.k_host.proofs.Opened.{first_few}
use Rattle.k_host.proofs.host.Host.make.Goals as goal
use Rattle.std.proofs.lemmas.Bool.{iff_false}

pub returns-then-not-are_fit-clause-why : goal.returns-then-not-are_fit-clause-why
returns-then-not-are_fit-clause-why c = iff_false c.are_fit.ensures c.if-not-are_fit.true

pub make_parts-requires : goal.make_parts-requires
make_parts-requires c = record { rules = c.requires; fit = c.are_fit.ensures.0 c.if-not-are_fit.false }

pub invariant_of-result : goal.invariant_of-result
invariant_of-result c = record {
  all = c.in_ok-parts.ensures.guests;
  rest = c.in_ok-parts.ensures.rest;
  few = first_few c.args.terms c.in_ok-parts.parts c.in_ok-parts.ensures (c.are_fit.ensures.0 c.if-not-are_fit.false).enough.tail;
}

pub returns-clause-made : goal.returns-clause-made
returns-clause-made c = record {
  basis_is = refl;
  serves = record {
    all = c.in_ok-parts.ensures.guests;
    rest = c.in_ok-parts.ensures.rest;
    few = first_few c.args.terms c.in_ok-parts.parts c.in_ok-parts.ensures (c.are_fit.ensures.0 c.if-not-are_fit.false).enough.tail;
  };
  journal = c.in_ok-parts.ensures.empty;
  guests = c.in_ok-parts.ensures.first;
  kernel = c.in_ok-parts.ensures.idle;
}

pub returns-clause-fit : goal.returns-clause-fit
returns-clause-fit c = c.are_fit.ensures.0 c.if-not-are_fit.false
