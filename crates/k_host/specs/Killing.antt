-- A kill among the processes of a host: who is killed, what it leaves, and when it is refused.
use Rattle.std.specs.Prelude.{◌≡◌, ◌≢◌, ◌&&◌, ◌==◌, ℕ, not, nat_lt, IfErr, IfOk, List, Option, Some, None, Result, if◌then◌else◌, slice_get, slice_set}
use Rattle.k_types.specs.declared.event.Event.{Event}
use Rattle.k_types.specs.declared.op.Op.{Op}
use Rattle.k_types.specs.declared.op.Op.TheVariants.{New, KNew, SNew, Store, Load, Move, Clear, Dir, Put, Get, Collect, KCollect, Share, Freeze, Attach, Exit, Kill, Resize}
use Rattle.k_book.specs.Books.{BookRecord}
use Rattle.k_cell.specs.Holdings.{HoldingsValue}
use Rattle.k_ends.specs.k_guests.declared.guest.Guest.{Guest}
use Rattle.k_ends.specs.k_guests.Serving.{Basis}
use Rattle.k_ends.specs.HostError.{HostError}
use Rattle.k_ends.specs.Killing.{CanNotKill, HasTriedToKill}

-- the number of the process that the operation of the process of that number kills, another one of so many
abbrev pub killed_among : ℕ → ℕ → Op → Option ℕ
killed_among count pid (New r ty) = None
killed_among count pid (KNew r ty) = None
killed_among count pid (SNew r s ty) = None
killed_among count pid (Store base i value) = None
killed_among count pid (Load r base i) = None
killed_among count pid (Move r from) = None
killed_among count pid (Clear r) = None
killed_among count pid (Dir r) = None
killed_among count pid (Put base i number) = None
killed_among count pid (Get base i) = None
killed_among count pid Collect = None
killed_among count pid KCollect = None
killed_among count pid (Share s) = None
killed_among count pid (Freeze s root) = None
killed_among count pid (Attach r s) = None
killed_among count pid Exit = None
killed_among count pid (Kill q) = if nat_lt q.0 count && not (q.0 == pid) then Some q.0 else None
killed_among count pid (Resize m max) = None

-- two processes stand at two places
pub record AreTwoAt (guests : List Guest) (at target : ℕ) (g t : Guest) : Type 0 where
  pub own : slice_get guests at ≡ Some g
  pub other : slice_get guests target ≡ Some t
  pub two : target ≢ at

-- the kill was done or refused; the two processes may have changed, and no other has
pub record HasKilledAmong (basis : Basis) (op : Op) (at target : ℕ) (g t : Guest) (old new : List Guest) (old_k k : HoldingsValue) (old_b b : BookRecord) (came : Result Event HostError) : Type 0 where
  pub own : Guest
  pub other : Guest
  pub guests_is : new ≡ slice_set (slice_set old at own) target other
  pub done : IfOk came (λ event. HasTriedToKill basis op g own t other old_k k old_b b event)
  pub same : IfErr came (λ why. (own ≡ g) × (other ≡ t) × (k ≡ old_k) × (b ≡ old_b))
  pub why : IfErr came (λ why. CanNotKill basis old_k old_b op t g why)
