-- Objects with counts.
use Rattle.std.specs.Prelude.{ℕ, List, if◌then◌else◌}
use Rattle.k_types.specs.Totals.{total}
use Rattle.k_types.specs.declared.names.Name.{Name}
use Rattle.k_types.specs.Names.{name_eq}

-- an object, and how often something holds it
pub record Counted : Type 0 where
  pub object : Name
  pub count : ℕ

-- how often the object is counted; 0 where no item is its own
abbrev pub counted : List Counted → Name → ℕ
counted items n = total (λ item. if name_eq item.object n then item.count else 0) items
