use Rattle.std.proofs.Common.{◌≤◌, ◌<◌, length, List, arith, subst}
use Rattle.std.proofs.lemmas.List.{length-map}
use Rattle.k_types.specs.declared.names.Field.{Field}
use Rattle.k_types.specs.Bounds.{most_fields}
use Rattle.k_types.proofs.Rows.{row-at}
use Rattle.k_types.proofs.types.TypeTable.field_count.Goals as goal

few : (c : goal.After-len) → c.len.result ≤ most_fields
few c =
    let lt : c.args.ty.0 < length c.self.inside.rows.items = grind (arith, length-map) in
    let row = row-at (λ row. row.items) c.self.inside.rows.items c.args.ty.0 c.index.result.now lt c.index.ensures in
    let held : length c.index.result.now.items ≤ most_fields = subst (λ (xs : List Field). length xs ≤ most_fields) row (c.self.invariant c.args.ty) in
    omega (arith, c.index.result.now.ok)

pub overflow_cast-result : goal.overflow_cast-result
overflow_cast-result c = let h = few c in omega arith

pub returns-clause-few : goal.returns-clause-few
returns-clause-few c = few c
