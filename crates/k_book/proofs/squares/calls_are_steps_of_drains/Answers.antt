use Rattle.k_book.proofs.OnPart.{entered_drain, left_drain, unpinned_drain, own_drain, null_drain}
use Rattle.k_book.proofs.squares.calls_are_steps_of_drains.Goals as goal

pub returns-clause-entered : goal.returns-clause-entered
returns-clause-entered c = entered_drain

pub returns-clause-left : goal.returns-clause-left
returns-clause-left c = left_drain

pub returns-clause-unpinned : goal.returns-clause-unpinned
returns-clause-unpinned c = unpinned_drain

pub returns-clause-own : goal.returns-clause-own
returns-clause-own c = own_drain

pub returns-clause-null : goal.returns-clause-null
returns-clause-null c = null_drain
