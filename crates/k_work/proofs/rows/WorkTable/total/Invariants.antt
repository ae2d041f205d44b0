use Rattle.std.proofs.Common.{◌≡◌, ◌+◌, drop}
use Rattle.k_types.specs.Totals.{total}
use Rattle.k_work.specs.declared.rows.WorkRow.{WorkRow}
use Rattle.k_work.proofs.rows.WorkTable.total.Given as goal

abbrev pub invariant-loop-row : goal.invariant-loop-row
invariant-loop-row l = record {
  collections : l.all.collections + total (λ (r : WorkRow). r.collections) (drop l.row-index l.row-items) ≡ total (λ (r : WorkRow). r.collections) l.self.procs;
  work : l.all.work + total (λ (r : WorkRow). r.work) (drop l.row-index l.row-items) ≡ total (λ (r : WorkRow). r.work) l.self.procs;
}
