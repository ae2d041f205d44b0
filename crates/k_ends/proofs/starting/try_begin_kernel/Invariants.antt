use Rattle.k_calls.specs.k_guests.Serving.{basis_of}
use Rattle.k_ends.proofs.starting.try_begin_kernel.Given as goal

abbrev pub ghost-do_begin_kernel : goal.ghost-do_begin_kernel
ghost-do_begin_kernel a = basis_of a.terms.now
