use Rattle.k_calls.specs.k_guests.Serving.{basis_of}
use Rattle.k_ends.proofs.whole.try_collect_kernel.Given as goal

abbrev pub ghost-do_collect_kernel : goal.ghost-do_collect_kernel
ghost-do_collect_kernel a = basis_of a.terms.now
