-- What a process does inside its heap opens no collection.
use Rattle.std.proofs.Common.{◌≡◌, ◌∙◌, ap}
use Rattle.k_types.specs.declared.event.Reply.{Reply}
use Rattle.k_types.specs.declared.names.CellPhase.TheVariants.{Idle}
use Rattle.k_types.specs.declared.op.Op.{Op}
use Rattle.k_process.specs.Locals.{local_change}
use Rattle.k_host.specs.k_guests.declared.guest.Guest.{Guest}
use Rattle.k_host.specs.k_guests.Serving.{Basis}
use Rattle.k_host.specs.Doing.{HasDoneInside}
use Rattle.k_host.proofs.LocalKept.{change_idle, unless_idle}

pub idle_inside : (basis : Basis) (op : Op) (g w : Guest) (said : Reply) → HasDoneInside basis op g w said → g.cell.value.collection ≡ Idle → w.cell.value.collection ≡ Idle
idle_inside basis op g w said d idle =
    ap (λ (x : Guest). x.cell.value.collection) d.guest_is ∙ unless_idle said (local_change g.cell.value op) g.cell.value (change_idle g.cell.value op) ∙ idle
