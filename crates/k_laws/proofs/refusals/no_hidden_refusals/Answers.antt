use Rattle.k_laws.proofs.Laws.{no_hidden_refusals-store, no_hidden_refusals-new, no_hidden_refusals-in_kernel, no_hidden_refusals-in_shared}
use Rattle.k_laws.proofs.refusals.no_hidden_refusals.Goals as goal

pub returns-clause-store : goal.returns-clause-store
returns-clause-store c = no_hidden_refusals-store

pub returns-clause-new : goal.returns-clause-new
returns-clause-new c = no_hidden_refusals-new

pub returns-clause-in_kernel : goal.returns-clause-in_kernel
returns-clause-in_kernel c = no_hidden_refusals-in_kernel

pub returns-clause-in_shared : goal.returns-clause-in_shared
returns-clause-in_shared c = no_hidden_refusals-in_shared
