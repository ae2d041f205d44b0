use Rattle.k_calls.specs.k_guests.Serving.{basis_of}
use Rattle.k_ends.proofs.starting.try_mark_kernel.Given as goal

abbrev pub ghost-do_mark_kernel : goal.ghost-do_mark_kernel
ghost-do_mark_kernel a = basis_of a.terms.now
