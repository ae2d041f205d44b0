use Rattle.std.proofs.Common.{refl, inl, inr}
use Rattle.k_words.proofs.Lines.{line_at, last_line}
use Rattle.k_words.proofs.Cuts.{feed_at}
use Rattle.k_words.proofs.words.next_line.Goals as goal

pub returns-then-end-bytes-clause-lines : goal.returns-then-end-bytes-clause-lines
returns-then-end-bytes-clause-lines c = line_at c.args.bytes.now c.find-end.result c.find-end.ensures c.if-end-bytes.true

pub returns-else-end-bytes-clause-lines : goal.returns-else-end-bytes-clause-lines
returns-else-end-bytes-clause-lines c = last_line c.args.bytes.now c.find-end.result c.find-end.ensures c.if-end-bytes.false c.requires

pub returns-then-end-bytes-clause-bytes : goal.returns-then-end-bytes-clause-bytes
returns-then-end-bytes-clause-bytes c = inl (feed_at c.args.bytes.now c.find-end.result c.find-end.ensures c.if-end-bytes.true)

pub returns-else-end-bytes-clause-bytes : goal.returns-else-end-bytes-clause-bytes
returns-else-end-bytes-clause-bytes c = inr (refl, refl)
