use Rattle.k_calls.specs.k_guests.Serving.{basis_of}
use Rattle.k_ends.proofs.starting.try_absorb.Given as goal

abbrev pub ghost-do_absorb : goal.ghost-do_absorb
ghost-do_absorb a = basis_of a.terms.now
