-- Larger rooms for a host behind one call.
use Rattle.std.specs.Prelude.{◌≡◌, ℕ, Option, Some, MatchOption, Result, Ok, Err, IfErr, IfOk, OnErr}
use Rattle.k_chronicle.specs.k_keeper.Keeping.{KeeperValue}
use Rattle.k_chronicle.specs.k_keeper.Kept.{HasGrownIn}
use Rattle.k_chronicle.specs.k_keeper.k_host.Growing.{IsNotGrown}
use Rattle.k_chronicle.specs.k_keeper.k_host.declared.errors.GrowError.{GrowError}
use Rattle.k_chronicle.specs.k_keeper.k_host.declared.errors.GrowError.TheVariants.{NoMemory, Rooms as NotLarger}
use Rattle.k_chronicle.specs.Texts.{Texts}
use Rattle.k_embed.specs.declared.messages.Answer.{Answer}
use Rattle.k_embed.specs.declared.messages.Rooms.{Rooms}
use Rattle.k_embed.specs.declared.serving.Slot.{Slot}
use Rattle.k_embed.specs.Asked.{rooms_of}
use Rattle.k_embed.specs.Codes.{of_number, plain}
use Rattle.k_embed.specs.Served.{IsServedWithout}

-- what came of it: how many of the last events can be read now; or want of memory, or that the rooms are not larger ones
abbrev pub of_grown : Result ℕ GrowError → Answer
of_grown (Ok kept) = of_number kept
of_grown (Err (NoMemory refused)) = plain 6 0 0
of_grown (Err NotLarger) = plain 19 0 0

-- the host has these rooms now, or nothing has changed; and the answer is that of what came of it
pub record IsGrown (old new : KeeperValue) (rooms : Rooms) (answer : Answer) : Type 0 where
  pub came : Result ℕ GrowError
  pub shown : answer ≡ of_grown came
  pub done : IfOk came (λ kept. HasGrownIn old new (rooms_of rooms) kept)
  pub same : OnErr came (new ≡ old)
  pub why : IfErr came (λ e. IsNotGrown old.host (rooms_of rooms) e)

-- there is a host in the place still, which was asked to have these rooms, and what was printed is as it was
pub record IsGrownThere (old : KeeperValue) (kept : Option Texts) (place : Slot) (rooms : Rooms) (answer : Answer) : Type 0 where
  pub now : KeeperValue
  pub there : place.host ≡ Some now
  pub grown : IsGrown old now rooms answer
  pub texts : place.texts ≡ kept

-- the host in the place was asked to have these rooms, or there is none
abbrev pub IsGrownIn : Slot → Slot → Rooms → Answer → Type 0
IsGrownIn old new rooms answer = MatchOption old.host (IsServedWithout old new answer) (λ h. IsGrownThere h old.texts new rooms answer)
