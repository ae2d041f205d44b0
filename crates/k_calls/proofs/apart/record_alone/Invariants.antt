use Rattle.k_guests.specs.Serving.{basis_of}
use Rattle.k_calls.proofs.apart.record_alone.Given as goal

abbrev pub ghost-do_alone : goal.ghost-do_alone
ghost-do_alone a = basis_of a.terms.now
