use Rattle.k_text.specs.Report.{phase_words}
use Rattle.k_report.proofs.charges.push_phase.Goals as goal

pub returns-in-Populating-clause-text : goal.returns-in-Populating-clause-text
unfolding phase_words
returns-in-Populating-clause-text g c = rw (c.in-Populating.is, ← c.proc_name.ensures.name) c.push_words.ensures.text
