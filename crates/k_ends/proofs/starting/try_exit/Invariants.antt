use Rattle.k_calls.specs.k_guests.Serving.{basis_of}
use Rattle.k_ends.proofs.starting.try_exit.Given as goal

abbrev pub ghost-do_exit : goal.ghost-do_exit
ghost-do_exit a = basis_of a.terms.now
