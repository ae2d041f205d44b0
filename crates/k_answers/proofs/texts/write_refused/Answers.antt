use Rattle.k_answers.proofs.Lines.{refused_line}
use Rattle.k_status.proofs.Written.{written_by}
use Rattle.k_io.proofs.Writings.{writes_same}
use Rattle.k_answers.proofs.texts.write_refused.Goals as goal

pub returns : goal.returns
returns g c =
    let line = refused_line _ _ _ c.args.line c.new-text.ensures c.push_text.ensures (rw c.from.ensures at c.push_number.ensures.text) in
    written_by _ _ _ _ _ _ _ _ (λ none. none) c.after_writing.ensures (writes_same _ _ _ _ _ _ _ line c.write_to.ensures.written)
