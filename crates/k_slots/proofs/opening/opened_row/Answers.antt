use Rattle.std.proofs.Common.{refl, sym, subst}
use Rattle.k_parts.specs.OpenError.TheVariants.{NoMemory}
use Rattle.k_slots.specs.declared.slots.Part.{Part}
use Rattle.k_slots.specs.Opening.{IsOpenedRow}
use Rattle.k_slots.proofs.opening.opened_row.Goals as goal

pub parted-requires : goal.parted-requires
parted-requires c = let read = c.in-Ok.ensures.read in record { guests = λ k x at. (read.fresh.guests k x at).idle; kernel = read.fresh.kernel }

pub returns-in-Err-parted : goal.returns-in-Err-parted
returns-in-Err-parted c =
    subst (λ (p : Part). IsOpenedRow c.args.text.now (record { 0 = c.args.ty }) c.args.bodies c.args.rooms c.args.number c.args.freed p) (sym c.lacking-in-Err-parted.ensures)
    (record { why = NoMemory c.in-Err-parted.refused; cause = tt; line_is = refl; reason_is = refl })
