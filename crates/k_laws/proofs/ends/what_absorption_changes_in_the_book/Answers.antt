use Rattle.k_laws.proofs.ChangesLaws.{what_absorption_changes_in_the_book}
use Rattle.k_laws.proofs.ends.what_absorption_changes_in_the_book.Goals as goal

pub returns : goal.returns
returns c = what_absorption_changes_in_the_book
