use Rattle.k_guests.specs.Serving.{basis_of}
use Rattle.k_calls.proofs.stepping.try_inside.Given as goal

abbrev pub ghost-do_inside : goal.ghost-do_inside
ghost-do_inside a = basis_of a.terms.now
