use Rattle.k_types.specs.declared.names.Heap.TheVariants.{User}
use Rattle.k_commit.proofs.Fitting.{bytes_small, charged_small, other_bytes_small}
use Rattle.k_commit.proofs.laws.bytes_fit.Goals as goal

pub returns-clause-heap : goal.returns-clause-heap
returns-clause-heap c = λ before met room. bytes_small before met room (User before.cell.pid) before.cell.value met.after.shows

pub returns-clause-beside : goal.returns-clause-beside
returns-clause-beside c = other_bytes_small

pub returns-clause-charged : goal.returns-clause-charged
returns-clause-charged c = charged_small
