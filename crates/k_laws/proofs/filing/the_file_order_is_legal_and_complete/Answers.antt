use Rattle.k_laws.proofs.OrderLaws.{the_file_order_is_legal_and_complete-legal, the_file_order_is_legal_and_complete-complete}
use Rattle.k_laws.proofs.filing.the_file_order_is_legal_and_complete.Goals as goal

pub returns-clause-legal : goal.returns-clause-legal
returns-clause-legal c = the_file_order_is_legal_and_complete-legal

pub returns-clause-complete : goal.returns-clause-complete
returns-clause-complete c = the_file_order_is_legal_and_complete-complete
