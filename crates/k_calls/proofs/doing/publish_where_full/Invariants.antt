use Rattle.k_guests.specs.Serving.{basis_of}
use Rattle.k_calls.proofs.doing.publish_where_full.Given as goal

abbrev pub ghost-publish_all : goal.ghost-publish_all
ghost-publish_all a = basis_of a.terms.now
