use Rattle.k_book.proofs.OnPart.{pinned_on, unpinned_on, moved_on, own_pinned, own_unpinned}
use Rattle.k_book.proofs.squares.pins_change_the_part.Goals as goal

pub returns-clause-pinned : goal.returns-clause-pinned
returns-clause-pinned c = pinned_on

pub returns-clause-unpinned : goal.returns-clause-unpinned
returns-clause-unpinned c = unpinned_on

pub returns-clause-moved : goal.returns-clause-moved
returns-clause-moved c = moved_on

pub returns-clause-own_pinned : goal.returns-clause-own_pinned
returns-clause-own_pinned c = own_pinned

pub returns-clause-own_unpinned : goal.returns-clause-own_unpinned
returns-clause-own_unpinned c = own_unpinned
