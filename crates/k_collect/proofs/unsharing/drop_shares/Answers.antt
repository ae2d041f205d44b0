use Rattle.std.proofs.Common.{◌≡◌, ◌<◌, get_or, sym, ap, subst, arith, ◌∙◌}
use Rattle.k_types.specs.declared.names.Pid.{Pid}
use Rattle.k_commit.specs.k_book.Books.{BookRecord}
use Rattle.k_shares.specs.Sharers.{LosesShare}
use Rattle.k_collect.specs.Unsharing.{ways_left}
use Rattle.k_collect.proofs.Unshared.{bytes_so_far, kept_means, lost_means, shares_so_far, unsharing_drops, unsharing_passes}
use Rattle.k_collect.proofs.unsharing.drop_shares.Goals as goal
use Rattle.k_collect.proofs.unsharing.drop_shares.Goals.{then-loses_share, else-loses_share}

pub overflow_add-unshared : goal.overflow_add-unshared
overflow_add-unshared c =
    let means = lost_means c.args.cell.now.value c.args.cell.now.pid.0 c.args.book.now c.loop-s.book c.loop-s.s c.loop-s.unshared.shares c.loop-s.unshared.bytes c.requires c.loop-s.invariant
    (sym c.loses_share.ensures ∙ c.if-loses_share.true) in
    let fits = bytes_so_far c.args.cell.now.value c.args.cell.now.pid.0 c.args.book.now c.loop-s.book c.loop-s.s c.loop-s.unshared.shares c.loop-s.unshared.bytes c.requires c.loop-s.invariant
    (subst (λ n. c.loop-s.s < n) c.shared_heaps-s-end.ensures c.loop-s-test.true) means in
    let bytes : c.bytes_of.result ≡ get_or c.loop-s.book.value.shared_bytes c.loop-s.s 0 = c.bytes_of.ensures in
    omega (arith, fits, bytes)

pub overflow_add-unshared-then-loses_share : goal.overflow_add-unshared-then-loses_share
overflow_add-unshared-then-loses_share c =
    let fits = shares_so_far c.args.cell.now.value c.args.cell.now.pid.0 c.args.book.now c.loop-s.book c.loop-s.s c.loop-s.unshared.shares c.loop-s.unshared.bytes c.requires c.loop-s.invariant
    (subst (λ n. c.loop-s.s < n) c.shared_heaps-s-end.ensures c.loop-s-test.true) in
    omega (arith, fits)

pub loop-s-preserved : goal.loop-s-preserved
loop-s-preserved c = elim c.if-loses_share.branch [
  | then-loses_share w ↦
      let means = lost_means c.args.cell.now.value c.args.cell.now.pid.0 c.args.book.now c.loop-s.book c.loop-s.s c.loop-s.unshared.shares c.loop-s.unshared.bytes c.requires c.loop-s.invariant
      (sym c.loses_share.ensures ∙ w.if-loses_share.true) in
      rw (w.book-is, w.unshared-is, w.bytes_of.ensures, ap (λ (b : BookRecord). get_or b.value.shared_bytes c.loop-s.s 0) c.loop-s.invariant.rest)
      (unsharing_drops (ways_left c.args.cell.now.value c.args.cell.now.pid.0 c.args.book.now) c.args.cell.now.pid.0 c.args.book.now c.loop-s.book c.loop-s.s c.loop-s.unshared.shares c.loop-s.unshared.bytes c.loop-s.invariant w.drop_share.new.self means.0 means.1
      (subst (λ (q : Pid). LosesShare c.loop-s.book.value.shares w.drop_share.new.self.value.shares q.0 c.loop-s.s) w.pid.ensures w.drop_share.ensures.shares) w.drop_share.ensures.rest)
  | else-loses_share w ↦
      rw (w.book-is, w.unshared-is)
      (unsharing_passes (ways_left c.args.cell.now.value c.args.cell.now.pid.0 c.args.book.now) c.args.cell.now.pid.0 c.args.book.now c.loop-s.book c.loop-s.s c.loop-s.unshared.shares c.loop-s.unshared.bytes c.loop-s.invariant
      (kept_means c.args.cell.now.value c.args.cell.now.pid.0 c.args.book.now c.loop-s.book c.loop-s.s c.loop-s.unshared.shares c.loop-s.unshared.bytes c.requires c.loop-s.invariant
      (sym c.loses_share.ensures ∙ w.if-loses_share.false)))
]
