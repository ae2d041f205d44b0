use Rattle.k_calls.specs.k_guests.Serving.{basis_of}
use Rattle.k_ends.proofs.starting.try_begin.Given as goal

abbrev pub ghost-do_begin : goal.ghost-do_begin
ghost-do_begin a = basis_of a.terms.now
