use Rattle.k_calls.specs.k_guests.Serving.{basis_of}
use Rattle.k_ends.proofs.killing.try_kill.Given as goal

abbrev pub ghost-reached : goal.ghost-reached
ghost-reached a = basis_of a.terms.now

abbrev pub ghost-do_kill : goal.ghost-do_kill
ghost-do_kill a = basis_of a.terms.now

abbrev pub ghost-do_alone : goal.ghost-do_alone
ghost-do_alone a = basis_of a.terms.now
