use Rattle.std.proofs.Common.{refl, sym, subst}
use Rattle.k_slots.specs.declared.slots.Part.{Part}
use Rattle.k_slots.specs.declared.slots.Part.TheVariants.{Row}
use Rattle.k_slots.specs.Opening.{IsTaken}
use Rattle.k_slots.proofs.opening.take_next.Goals as goal

pub returns-in-Row : goal.returns-in-Row
returns-in-Row c = subst (λ (p : Part). IsTaken p (Row c.take_from.new.row) c.take_from.result) (sym c.in-Row.is) (record { now = c.take_from.new.row; there = refl; first = c.take_from.ensures })
