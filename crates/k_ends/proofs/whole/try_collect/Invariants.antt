use Rattle.k_calls.specs.k_guests.Serving.{basis_of}
use Rattle.k_ends.proofs.whole.try_collect.Given as goal

abbrev pub ghost-do_collect : goal.ghost-do_collect
ghost-do_collect a = basis_of a.terms.now
