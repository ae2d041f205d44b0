use Rattle.k_calls.specs.k_guests.Serving.{basis_of}
use Rattle.k_ends.proofs.starting.try_end_kernel.Given as goal

abbrev pub ghost-do_end_kernel : goal.ghost-do_end_kernel
ghost-do_end_kernel a = basis_of a.terms.now
