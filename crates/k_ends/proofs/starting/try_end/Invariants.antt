use Rattle.k_calls.specs.k_guests.Serving.{basis_of}
use Rattle.k_ends.proofs.starting.try_end.Given as goal

abbrev pub ghost-do_end : goal.ghost-do_end
ghost-do_end a = basis_of a.terms.now
