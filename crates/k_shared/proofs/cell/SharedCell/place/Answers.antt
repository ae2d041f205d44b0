use Rattle.std.proofs.Common.{sym, subst}
use Rattle.k_cell.specs.Holdings.{HasObjectRoom}
use Rattle.k_shared.specs.SharedHeaps.{SharedRecord, holdings_of}
use Rattle.k_shared.proofs.cell.SharedCell.place.Goals as goal

pub place-requires-clause-left : goal.place-requires-clause-left
place-requires-clause-left c =
    let l = subst (λ (r : SharedRecord). HasObjectRoom (holdings_of r) r.seg.0) (sym c.self.view_is) c.requires.left in
    record { given = l.given; room = l.room; there = l.there; can_give = l.can_give; left = l.left }
