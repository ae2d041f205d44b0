use Rattle.k_guests.specs.Serving.{basis_of}
use Rattle.k_calls.proofs.apart.try_here.Given as goal

abbrev pub ghost-do_inside : goal.ghost-do_inside
ghost-do_inside a = basis_of a.terms.now

abbrev pub ghost-reached : goal.ghost-reached
ghost-reached a = basis_of a.terms.now
