use Rattle.k_agree.proofs.Beside.{store_refused_beside, stored_beside}
use Rattle.k_agree.proofs.Given.{null_store, own_store, own_store_refused}
use Rattle.k_agree.proofs.storing.stores_are_given.Goals as goal

pub returns-clause-null : goal.returns-clause-null
returns-clause-null c = null_store

pub returns-clause-own : goal.returns-clause-own
returns-clause-own c = own_store

pub returns-clause-own_refused : goal.returns-clause-own_refused
returns-clause-own_refused c = own_store_refused

pub returns-clause-beside : goal.returns-clause-beside
returns-clause-beside c = stored_beside

pub returns-clause-beside_refused : goal.returns-clause-beside_refused
returns-clause-beside_refused c = store_refused_beside
