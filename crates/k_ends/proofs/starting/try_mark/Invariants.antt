use Rattle.k_calls.specs.k_guests.Serving.{basis_of}
use Rattle.k_ends.proofs.starting.try_mark.Given as goal

abbrev pub ghost-do_mark : goal.ghost-do_mark
ghost-do_mark a = basis_of a.terms.now
