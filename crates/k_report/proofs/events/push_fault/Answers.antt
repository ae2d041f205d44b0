use Rattle.k_text.specs.EventLines.{fault_words}
use Rattle.k_report.proofs.events.push_fault.Goals as goal

pub returns-in-ProcNotBelow-clause-text : goal.returns-in-ProcNotBelow-clause-text
unfolding fault_words
returns-in-ProcNotBelow-clause-text c = rw c.in-ProcNotBelow.is (rw c.proc_name.ensures.name at c.push_words-in-ProcNotBelow.ensures.text)

pub returns-in-LimitNotBelow-clause-text : goal.returns-in-LimitNotBelow-clause-text
unfolding fault_words
returns-in-LimitNotBelow-clause-text c = rw c.in-LimitNotBelow.is (rw c.limit_name-in-LimitNotBelow.ensures.name at c.push_words-in-LimitNotBelow.ensures.text)
