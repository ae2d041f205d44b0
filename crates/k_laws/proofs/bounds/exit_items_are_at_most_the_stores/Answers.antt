use Rattle.k_laws.proofs.BoundsLaws.{exit_items_are_at_most_the_stores-all, exit_items_are_at_most_the_stores-user, exit_items_are_at_most_the_stores-shared}
use Rattle.k_laws.proofs.bounds.exit_items_are_at_most_the_stores.Goals as goal

pub returns-clause-all : goal.returns-clause-all
returns-clause-all c = exit_items_are_at_most_the_stores-all

pub returns-clause-user : goal.returns-clause-user
returns-clause-user c = exit_items_are_at_most_the_stores-user

pub returns-clause-shared : goal.returns-clause-shared
returns-clause-shared c = exit_items_are_at_most_the_stores-shared
