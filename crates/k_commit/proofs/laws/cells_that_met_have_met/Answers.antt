use Rattle.k_commit.specs.Others.{of_kernel, of_shared}
use Rattle.k_commit.proofs.Meetings.{heap_has_met, other_has_met}
use Rattle.k_commit.proofs.laws.cells_that_met_have_met.Goals as goal

pub returns-clause-alone : goal.returns-clause-alone
returns-clause-alone c = λ trace w cell b book book_stands heap_stands met. heap_has_met trace w cell b book met book_stands heap_stands

pub returns-clause-kernel : goal.returns-clause-kernel
returns-clause-kernel c = λ trace w cell k kernel b book last book_stands heap_stands stands met second.
    other_has_met trace w cell b book met (of_kernel k) (of_kernel kernel) last book_stands heap_stands stands stands.agrees.tail second

pub returns-clause-shared : goal.returns-clause-shared
returns-clause-shared c = λ trace w cell s shared b book last book_stands heap_stands stands met second.
    other_has_met trace w cell b book met (of_shared s) (of_shared shared) last book_stands heap_stands stands stands.agrees.tail second
