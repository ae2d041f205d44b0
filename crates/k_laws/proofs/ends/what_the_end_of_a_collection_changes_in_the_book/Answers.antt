use Rattle.k_laws.proofs.ChangesLaws.{what_the_end_of_a_collection_changes_in_the_book-kernel, what_the_end_of_a_collection_changes_in_the_book-user}
use Rattle.k_laws.proofs.ends.what_the_end_of_a_collection_changes_in_the_book.Goals as goal

pub returns-clause-kernel : goal.returns-clause-kernel
returns-clause-kernel c = what_the_end_of_a_collection_changes_in_the_book-kernel

pub returns-clause-user : goal.returns-clause-user
returns-clause-user c = what_the_end_of_a_collection_changes_in_the_book-user
