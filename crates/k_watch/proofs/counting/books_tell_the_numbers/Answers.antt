use Rattle.k_watch.proofs.Told.{book_tells}
use Rattle.k_watch.proofs.counting.books_tell_the_numbers.Goals as goal

pub returns : goal.returns
returns c = book_tells
