use Rattle.k_book.proofs.Telling.{opened_of, opened_agrees}
use Rattle.k_book.proofs.laws.opened_books_agree.Goals as goal

pub returns-clause-trace : goal.returns-clause-trace
returns-clause-trace c = opened_of

pub returns-clause-agrees : goal.returns-clause-agrees
returns-clause-agrees c = opened_agrees
