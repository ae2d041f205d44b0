-- The list of live objects. No public clause cites this file.
use Rattle.std.specs.Prelude.{◌≡◌, ◌⊎◌, ℕ, ◌<◌, ◌≤◌, false, List, length, map, count_by, slice_index_or}
use Rattle.k_space.specs.declared.marks.Place.{Place}
use Rattle.k_space.specs.declared.marks.Place.TheVariants.{Empty, At}
use Rattle.k_space.specs.declared.marks.Mark.{Mark}
use Rattle.k_space.specs.declared.marks.Mark.TheVariants.{White as MarkWhite}
use Rattle.k_space.specs.declared.live.Entry.{Entry}
use Rattle.k_space.specs.Places.{black_place, is_taken, is_white_place}

-- the serials of the entries
abbrev pub serials : List Entry → List ℕ
serials entries = map (λ e. e.serial) entries

-- the list has the serial
pub record IsAmong (live : List ℕ) (serial : ℕ) : Type 0 where
  pub at : ℕ
  pub below : at < length live
  pub is : slice_index_or live at 0 ≡ serial

-- the places of so many from the first of the list are not white
abbrev pub ArePassed : List Place → List ℕ → ℕ → Type 0
ArePassed places live count = (k : ℕ) → k < count → is_white_place (slice_index_or places (slice_index_or live k 0) Empty) ≡ false

-- the list has each serial with an object, and no more entries than there are objects, and the places of the first so many are not white
pub record IsListed (places : List Place) (live : List ℕ) (passed : ℕ) : Type 0 where
  pub counted : length live ≡ count_by is_taken places
  pub reached : passed ≤ length live
  pub inside : (k : ℕ) → k < length live → slice_index_or live k 0 < length places
  pub covers : (serial slot : ℕ) (mark : Mark) → slice_index_or places serial Empty ≡ At slot mark → IsAmong live serial
  pub done : ArePassed places live passed

-- it stands there on the list, and its object has the slot and no mark, while those before it are not white
pub record IsNextWhite (places : List Place) (live : List ℕ) (at slot : ℕ) : Type 0 where
  pub below : at < length live
  pub there : slice_index_or places (slice_index_or live at 0) Empty ≡ At slot MarkWhite
  pub done : ArePassed places live at

-- no place from that serial on has changed, and any other is as it was or black, which those of so many of the list are
pub record AreBlackened (live : List ℕ) (below count : ℕ) (old new : List Place) : Type 0 where
  pub len : length new ≡ length old
  pub each : (i : ℕ) → (slice_index_or new i Empty ≡ slice_index_or old i Empty) ⊎ ((i < below) × (slice_index_or new i Empty ≡ black_place (slice_index_or old i Empty)))
  pub done : (k : ℕ) → k < count → slice_index_or live k 0 < below → slice_index_or new (slice_index_or live k 0) Empty ≡ black_place (slice_index_or old (slice_index_or live k 0) Empty)

-- so many at the front of the list are below that serial
pub record AreInFront (live : List ℕ) (below front : ℕ) : Type 0 where
  pub within : front ≤ length live
  pub low : (k : ℕ) → k < front → slice_index_or live k 0 < below
