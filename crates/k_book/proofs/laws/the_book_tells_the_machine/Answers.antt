use Rattle.k_book.proofs.Telling.{tells}
use Rattle.k_book.proofs.laws.the_book_tells_the_machine.Goals as goal

pub returns : goal.returns
returns c = tells
