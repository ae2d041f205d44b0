use Rattle.k_laws.proofs.ChangesLaws.{a_collection_begins_from_its_cell_and_the_book}
use Rattle.k_laws.proofs.roots.a_collection_begins_from_its_cell_and_the_book.Goals as goal

pub returns : goal.returns
returns c = a_collection_begins_from_its_cell_and_the_book
