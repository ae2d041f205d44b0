use Rattle.k_laws.proofs.ChangesLaws.{what_a_new_object_changes_in_the_book-own, what_a_new_object_changes_in_the_book-kernel, what_a_new_object_changes_in_the_book-shared}
use Rattle.k_laws.proofs.objects.what_a_new_object_changes_in_the_book.Goals as goal

pub returns-clause-own : goal.returns-clause-own
returns-clause-own c = what_a_new_object_changes_in_the_book-own

pub returns-clause-kernel : goal.returns-clause-kernel
returns-clause-kernel c = what_a_new_object_changes_in_the_book-kernel

pub returns-clause-shared : goal.returns-clause-shared
returns-clause-shared c = what_a_new_object_changes_in_the_book-shared
