use Rattle.k_guests.specs.Serving.{basis_of}
use Rattle.k_calls.proofs.apart.record_with_shared.Given as goal

abbrev pub ghost-do_with_shared : goal.ghost-do_with_shared
ghost-do_with_shared a = basis_of a.terms.now
