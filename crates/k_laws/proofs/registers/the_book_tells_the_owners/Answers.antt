use Rattle.k_laws.proofs.ChangesLaws.{the_book_tells_the_owners}
use Rattle.k_laws.proofs.registers.the_book_tells_the_owners.Goals as goal

pub returns : goal.returns
returns c = the_book_tells_the_owners
