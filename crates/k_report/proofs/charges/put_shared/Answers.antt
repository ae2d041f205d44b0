use Rattle.std.proofs.Common.{codes}
use Rattle.std.specs.Prelude.{decimal}
use Rattle.k_words.specs.Words.{word_at}
use Rattle.k_types.specs.Owners.{bytes_of, shared, phase_of}
use Rattle.k_text.specs.Report.{shared_charge_line, phase_words}
use Rattle.k_report.proofs.LineLemmas.{writes_line, line_behind_three}
use Rattle.k_report.proofs.charges.put_shared.Goals as goal

pub returns-clause-written : goal.returns-clause-written
unfolding shared_charge_line
returns-clause-written g c =
    writes_line _ _ _ _ _ _ (shared_charge_line c.args.names.now (g.V.View.trace c.args.view.now) (g.V.View.state c.args.view.now) c.args.shared.0)
    (line_behind_three (codes "shared") (word_at c.args.names.now.shared c.args.shared.0) (decimal (bytes_of (g.V.View.trace c.args.view.now) (g.V.View.state c.args.view.now) (shared c.args.shared.0))) _ _ _ _
    (phase_words c.args.names.now (phase_of (g.V.View.state c.args.view.now).phases c.args.shared.0))
    (rw c.requires.empty at c.push_text.ensures)
    (rw c.shared_name.ensures.name at c.push_word.ensures)
    (rw c.bytes.ensures at c.push_number.ensures.text)
    (rw c.phase.ensures.exact at c.push_phase.ensures.text))
    c.write_to.ensures.written
