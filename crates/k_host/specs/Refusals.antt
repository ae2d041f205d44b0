-- When the calls on a host are refused, and with which errors.
use Rattle.std.specs.Prelude.{◌≡◌, ◌⊎◌, MatchOption, Some, slice_get}
use Rattle.k_types.specs.declared.names.Pid.{Pid}
use Rattle.k_types.specs.declared.names.SharedId.{SharedId}
use Rattle.k_types.specs.declared.op.Op.{Op}
use Rattle.k_ends.specs.k_guests.declared.guest.Guest.{Guest}
use Rattle.k_ends.specs.HostError.{HostError}
use Rattle.k_ends.specs.HostError.TheVariants.{Unknown}
use Rattle.k_ends.specs.CallsRefusals.{CanNotOperate}
use Rattle.k_ends.specs.Killing.{IsEndBarred}
use Rattle.k_ends.specs.Refusals.{CanNotAbsorb}
use Rattle.k_host.specs.Hosts.{HostValue}

-- a call on the process of that number is refused: with Unknown where there is none, and else for the reason that the call gives of it
abbrev pub MayRefuse : HostValue → Pid → (Guest → HostError → Type 0) → HostError → Type 0
MayRefuse h pid reason why = MatchOption (slice_get h.guests pid.0) (why ≡ Unknown) (λ g. reason g why)

-- the operation would end a process of the host, which can't end now
pub record IsKillBarred (h : HostValue) (op : Op) (g : Guest) (why : HostError) : Type 0 where
  pub target : Pid
  pub victim : Guest
  pub there : slice_get h.guests target.0 ≡ Some victim
  pub named : victim.cell.pid ≡ target
  pub barred : IsEndBarred h.basis h.kernel h.book op victim g why

-- a process of the host can't do the operation
abbrev pub CanNotOperateIn : HostValue → Op → Guest → HostError → Type 0
CanNotOperateIn h op g why = CanNotOperate h.basis h.kernel h.shared h.book op g why ⊎ IsKillBarred h op g why

-- the absorption of the shared heap of that number is refused: with Unknown where there is none
abbrev pub MayRefuseAbsorption : HostValue → SharedId → HostError → Type 0
MayRefuseAbsorption h id why =
    MatchOption (slice_get h.shared id.0) (why ≡ Unknown) (λ s. CanNotAbsorb h.basis h.kernel h.book id why)
