use Rattle.std.proofs.Common.{◌≡◌, ◌≤◌, length, take, vec_capacity}
use Rattle.k_outcome.specs.Cells.{cell_at}
use Rattle.k_outcome.proofs.listing.list_targets.Given as goal

abbrev pub invariant-loop-i : goal.invariant-loop-i
invariant-loop-i l = record {
  all : l.count ≡ length (cell_at l.cells l.heap).exits;
  room : length (cell_at l.cells l.heap).exits ≤ vec_capacity l.row;
  listed : l.row.items ≡ take l.i (cell_at l.cells l.heap).exits;
}
