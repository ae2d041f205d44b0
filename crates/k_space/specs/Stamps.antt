-- How a place is kept. No public clause cites this file.
use Rattle.std.specs.Prelude.{◌≡◌, ◌==◌, ℕ, zero, suc, ◌+◌, ◌-◌, ◌<◌, ◌^◌, List, [], ◌∷◌, ◌++◌, length, slice_index_or, if◌then◌else◌}
use Rattle.k_space.specs.declared.marks.Place.{Place}
use Rattle.k_space.specs.declared.marks.Place.TheVariants.{Empty, At}
use Rattle.k_space.specs.declared.marks.Mark.{Mark}
use Rattle.k_space.specs.declared.marks.Mark.TheVariants.{White as MarkWhite, Gray as MarkGray, Black as MarkBlack}
use Rattle.k_space.specs.declared.chains.Spot.{Spot}
use Rattle.k_space.specs.Chains.{AreLinked, serial_at, spot_at}

-- the places by serial, and how many slots there is memory for
pub record PlacesValue : Type 0 where
  pub items : List Place
  pub capacity : ℕ

-- the mark of the object in a spot
abbrev pub mark_of : ℕ → Spot → Mark
mark_of epoch spot =
    if spot.stamp == epoch then MarkGray spot.next
    else if spot.stamp == epoch + 1 then MarkBlack
    else MarkWhite

-- the mark of the object in that slot
abbrev pub mark_at : ℕ → List Spot → ℕ → Mark
mark_at epoch spots slot = mark_of epoch (spot_at spots slot)

-- the spot with no mark in any epoch
abbrev pub plain : Spot → Spot
plain spot = record spot { stamp = 0 }

-- the last of so many slots that has the serial
abbrev pub place_below : (ℕ → ℕ) → (ℕ → Mark) → ℕ → ℕ → Place
place_below serial mark wanted zero = Empty
place_below serial mark wanted (suc n) = if serial n == wanted then At n (mark n) else place_below serial mark wanted n

-- the place of a serial among so many slots; no object has serial 0
abbrev pub place_of : (ℕ → ℕ) → (ℕ → Mark) → ℕ → ℕ → Place
place_of serial mark slots zero = Empty
place_of serial mark slots (suc n) = place_below serial mark (suc n) slots

-- the places of so many serials from 0 on
abbrev pub places_of : (ℕ → ℕ) → (ℕ → Mark) → ℕ → ℕ → List Place
places_of serial mark slots zero = []
places_of serial mark slots (suc made) = places_of serial mark slots made ++ place_of serial mark slots made ∷ []

-- the places that the spots keep
unfoldable pub kept_places : List Spot → ℕ → ℕ → List Place
kept_places spots epoch made = places_of (serial_at spots) (mark_at epoch spots) (length spots) made

-- the slot has an object
pub record IsHeld (places : List Place) (slot : ℕ) : Type 0 where
  pub serial : ℕ
  pub was : Mark
  pub there : slice_index_or places serial Empty ≡ At slot was

-- no stamp is past the epoch
pub record AreStamped (spots : List Spot) (epoch : ℕ) : Type 0 where
  pub begun : 0 < epoch
  pub small : epoch + 1 < 2 ^ 32
  pub past : (slot : ℕ) → (spot_at spots slot).stamp < epoch + 2

-- the spots are on chains and stamped, and one more than a slot fits a link
pub record AreKept (spots : List Spot) (heads : List ℕ) (made epoch capacity : ℕ) : Type 0 where
  pub linked : AreLinked spots heads made
  pub stamped : AreStamped spots epoch
  pub few : made < 2 ^ 32
  pub small : capacity < 2 ^ 32 - 1
