use Rattle.k_calls.specs.k_guests.Serving.{basis_of}
use Rattle.k_ends.proofs.starting.try_settle.Given as goal

abbrev pub ghost-do_settle : goal.ghost-do_settle
ghost-do_settle a = basis_of a.terms.now
