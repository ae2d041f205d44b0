use Rattle.k_scan.proofs.Found.{roots_marked}
use Rattle.k_scan.proofs.holding.mark_roots.Goals as goal

pub returns : goal.returns
returns c =
    let m = c.args.lists.now in
    roots_marked m.setup m.state c.args.heap c.in_ok-marks.marks c.find_entered.new.marks c.find_pinned.new.marks c.find_held.new.marks c.setup-shape.ensures.shape.names.ordered
    c.in_ok-marks.ensures.size c.in_ok-marks.ensures.none c.find_entered.ensures c.find_pinned.ensures c.find_held.ensures
