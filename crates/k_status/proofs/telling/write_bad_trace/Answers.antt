use Rattle.k_status.proofs.Lines.{bad_line}
use Rattle.k_status.proofs.Written.{written_by}
use Rattle.k_io.proofs.Writings.{writes_same}
use Rattle.k_status.proofs.telling.write_bad_trace.Goals as goal

pub returns : goal.returns
returns g c =
    let line = bad_line _ _ _ _ _ c.args.line c.args.reason c.new-text.ensures c.push_text.ensures (rw c.from.ensures at c.push_number.ensures.text) c.push_text-2.ensures (rw c.from-2.ensures at c.push_number-2.ensures.text) in
    written_by _ _ _ _ _ _ _ _ (λ none. none) c.after_writing.ensures (writes_same _ _ _ _ _ _ _ line c.write_to.ensures.written)
