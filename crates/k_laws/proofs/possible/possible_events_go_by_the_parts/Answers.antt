use Rattle.k_laws.proofs.LocalityLaws.{possible_events_go_by_the_parts-operations, possible_events_go_by_the_parts-absorptions, possible_events_go_by_the_parts-closing, possible_events_go_by_the_parts-ends, possible_events_go_by_the_parts-histories}
use Rattle.k_laws.proofs.possible.possible_events_go_by_the_parts.Goals as goal

pub returns-clause-operations : goal.returns-clause-operations
returns-clause-operations c = possible_events_go_by_the_parts-operations

pub returns-clause-absorptions : goal.returns-clause-absorptions
returns-clause-absorptions c = possible_events_go_by_the_parts-absorptions

pub returns-clause-closing : goal.returns-clause-closing
returns-clause-closing c = possible_events_go_by_the_parts-closing

pub returns-clause-ends : goal.returns-clause-ends
returns-clause-ends c = possible_events_go_by_the_parts-ends

pub returns-clause-histories : goal.returns-clause-histories
returns-clause-histories c = possible_events_go_by_the_parts-histories
