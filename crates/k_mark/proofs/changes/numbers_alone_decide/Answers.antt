use Rattle.std.proofs.Common.{refl}
use Rattle.k_space.proofs.AreaRows.{number_found}
use Rattle.k_mark.specs.Sweeping.{swept_segment}
use Rattle.k_mark.proofs.Found.{same_distinct, same_none, set_number, map_number, unmarked_numbers}
use Rattle.k_mark.proofs.changes.numbers_alone_decide.Goals as goal

pub returns-clause-found : goal.returns-clause-found
returns-clause-found c = number_found

pub returns-clause-distinct : goal.returns-clause-distinct
returns-clause-distinct c = same_distinct

pub returns-clause-none : goal.returns-clause-none
returns-clause-none c = same_none

pub returns-clause-changed : goal.returns-clause-changed
returns-clause-changed c = λ a s t at. set_number a.segments t.number s t at refl

pub returns-clause-swept : goal.returns-clause-swept
returns-clause-swept c = λ a. map_number swept_segment (λ s. refl) a.segments

pub returns-clause-same : goal.returns-clause-same
returns-clause-same c = unmarked_numbers
