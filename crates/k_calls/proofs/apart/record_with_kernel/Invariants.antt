use Rattle.k_guests.specs.Serving.{basis_of}
use Rattle.k_calls.proofs.apart.record_with_kernel.Given as goal

abbrev pub ghost-do_with_kernel : goal.ghost-do_with_kernel
ghost-do_with_kernel a = basis_of a.terms.now
