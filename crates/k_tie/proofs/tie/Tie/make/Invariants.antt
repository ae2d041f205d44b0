use Rattle.std.proofs.Common.{◌≡◌, ◌-◌, []}
use Rattle.k_tie.specs.declared.view.View.TheVariants.{Journal}
use Rattle.k_tie.proofs.Opening.{blank_cells, blank_notes}
use Rattle.k_tie.proofs.tie.Tie.make.Given as goal

abbrev pub invariant-loop : goal.invariant-loop
invariant-loop l =
    (l.seat.table_id ≡ l.table.shared.table_id) × (l.table.shared.table_id.words ≡ 1)
    × (l.seat.me ≡ (Journal [] [] (blank_cells l.counter (l.fn.cells - l.counter)), []))
    × (l.notes.items ≡ blank_notes l.table.shared.table_id 0 l.counter)
