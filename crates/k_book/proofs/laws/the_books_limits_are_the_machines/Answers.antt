use Rattle.k_book.proofs.Telling.{tells_limits}
use Rattle.k_book.proofs.laws.the_books_limits_are_the_machines.Goals as goal

pub returns : goal.returns
returns c = λ trace st b tree is shows. tells_limits trace st b shows tree is
