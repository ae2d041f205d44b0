use Rattle.k_laws.proofs.ChangesLaws.{what_the_end_of_a_process_changes_in_the_book}
use Rattle.k_laws.proofs.ends.what_the_end_of_a_process_changes_in_the_book.Goals as goal

pub returns : goal.returns
returns c = what_the_end_of_a_process_changes_in_the_book
