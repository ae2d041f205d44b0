use Rattle.k_calls.specs.k_guests.Serving.{basis_of}
use Rattle.k_ends.proofs.starting.try_settle_kernel.Given as goal

abbrev pub ghost-do_settle_kernel : goal.ghost-do_settle_kernel
ghost-do_settle_kernel a = basis_of a.terms.now
