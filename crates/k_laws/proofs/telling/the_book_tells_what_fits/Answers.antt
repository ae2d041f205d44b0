use Rattle.k_laws.proofs.ChangesLaws.{the_book_tells_what_fits-shared, the_book_tells_what_fits-limits, the_book_tells_what_fits-maxima}
use Rattle.k_laws.proofs.telling.the_book_tells_what_fits.Goals as goal

pub returns-clause-shared : goal.returns-clause-shared
returns-clause-shared c = the_book_tells_what_fits-shared

pub returns-clause-limits : goal.returns-clause-limits
returns-clause-limits c = the_book_tells_what_fits-limits

pub returns-clause-maxima : goal.returns-clause-maxima
returns-clause-maxima c = the_book_tells_what_fits-maxima
