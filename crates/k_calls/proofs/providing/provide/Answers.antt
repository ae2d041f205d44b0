use Rattle.std.proofs.Common.{◌∙◌, sym}
use Rattle.k_guests.specs.Serving.{basis_of}
use Rattle.k_calls.proofs.Provided.{made_or_refused, provided_none, provided_taken}
use Rattle.k_calls.proofs.providing.provide.Goals as goal
use Rattle.std.proofs.lemmas.Bool.{iff_false}

pub returns-in_default-clause-provided : goal.returns-in_default-clause-provided
returns-in_default-clause-provided c = provided_none (basis_of c.args.terms.now) c.args.op.now c.args.guest.now c.requires.stock (sym c.type_made.ensures ∙ c.in_default.is)

pub returns-then-has_body_of-clause-provided : goal.returns-then-has_body_of-clause-provided
returns-then-has_body_of-clause-provided c =
    provided_taken (basis_of c.args.terms.now) c.args.op.now c.args.guest.now c.requires.stock c.in-Some.ty (sym c.type_made.ensures ∙ c.in-Some.is) (c.has_body_of.ensures.0 c.if-has_body_of.true)

pub returns-clause-provided : goal.returns-clause-provided
returns-clause-provided c =
    made_or_refused (basis_of c.args.terms.now) c.args.op.now c.args.guest.now c.requires.stock c.in-Some.ty (sym c.type_made.ensures ∙ c.in-Some.is)
    (iff_false c.has_body_of.ensures c.if-has_body_of.false) c.make_body.result c.make_body.new.guest c.make_body.ensures.made
