use Rattle.std.proofs.Common.{sym, ◌∙◌}
use Rattle.k_own.proofs.Below.{asker_known, book_of, refused, spared, target_known}
use Rattle.k_own.proofs.limits.spare.Goals as goal

pub is_above-requires : goal.is_above-requires
is_above-requires g c = (
  book_of g.before c.args.cell.now c.args.book.now c.args.target c.requires,
  (c.requires.have_met.book.keeps.limits, (rw (c.pid.ensures) (asker_known g.before c.args.cell.now c.args.book.now c.args.target c.requires), target_known g.before c.args.cell.now c.args.book.now c.args.target c.requires)),
)

pub commit_heap-requires : goal.commit_heap-requires
commit_heap-requires g c = spared g.before c.args.cell.now c.args.book.now c.args.target c.requires c.pid.result c.pid.ensures (sym c.is_above.ensures ∙ c.if-is_above.true)

pub commit_heap-requires-else-is_above : goal.commit_heap-requires-else-is_above
commit_heap-requires-else-is_above g c = refused g.before c.args.cell.now c.args.book.now c.args.target c.requires c.pid.result c.pid.ensures (sym c.is_above.ensures ∙ c.if-is_above.false)
