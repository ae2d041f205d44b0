use Rattle.k_book.specs.k_laws.BookChanges.{owner_in}
use Rattle.k_types.specs.Agree.{book_shown_by}
use Rattle.k_commit.proofs.registers.set_register.Given as goal

abbrev pub ghost-take_hold : goal.ghost-take_hold
ghost-take_hold g a = owner_in g.before.trace (book_shown_by g.before.book.value)

abbrev pub ghost-let_go : goal.ghost-let_go
ghost-let_go g a = owner_in g.before.trace (book_shown_by g.before.book.value)
