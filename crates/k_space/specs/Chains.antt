-- How objects are found by their serials. No public clause cites this file.
use Rattle.std.specs.Prelude.{◌≡◌, ◌≢◌, ℕ, zero, suc, ◌-◌, ◌/◌, ◌<◌, ◌≤◌, ◌^◌, List, length, slice_index_or, slice_set, bit_and, bit_xor}
use Rattle.k_space.specs.declared.chains.Spot.{Spot}

-- what is read where there is no spot
abbrev pub blank : Spot
blank = record { serial = 0; before = 0; stamp = 0; next = 0; near = 0 }

-- the spot of that slot
abbrev pub spot_at : List Spot → ℕ → Spot
spot_at spots slot = slice_index_or spots slot blank

-- the serial of the object in that slot; 0 where none lies there
abbrev pub serial_at : List Spot → ℕ → ℕ
serial_at spots slot = (spot_at spots slot).serial

-- the link from the object in that slot
abbrev pub before_at : List Spot → ℕ → ℕ
before_at spots slot = (spot_at spots slot).before

-- the spots where the one in that slot has another link
abbrev pub with_before : List Spot → ℕ → ℕ → List Spot
with_before spots slot before = slice_set spots slot (record (spot_at spots slot) { before = before })

-- the link that a chain begins with
abbrev pub head_at : List ℕ → ℕ → ℕ
head_at heads chain = slice_index_or heads chain 0

-- the number of the chain of a serial, of so many
unfoldable pub chain_by : ℕ → ℕ → ℕ
chain_by chains serial = bit_and (bit_xor (bit_xor serial (serial / 2 ^ 8)) (serial / 2 ^ 16)) (chains - 1)

-- the serial of the object that a link leads to, which is one more than its slot; 0 where it leads to none
abbrev pub linked : (ℕ → ℕ) → ℕ → ℕ
linked serial zero = 0
linked serial (suc slot) = serial slot

-- the link leads to the object of that chain whose serial is the greatest below the limit, or to none where the chain has none
pub record IsNext (serial : ℕ → ℕ) (chains chain limit link : ℕ) : Type 0 where
  pub live : (slot : ℕ) → link ≡ suc slot → 0 < serial slot
  pub in_it : (slot : ℕ) → link ≡ suc slot → chain_by chains (serial slot) ≡ chain
  pub low : linked serial link < limit
  pub skips : (slot : ℕ) → linked serial link < serial slot → serial slot < limit → chain_by chains (serial slot) ≡ chain → ⊥

-- no two objects have one serial, and each chain leads from its greatest serial down to its least; all are below that number
pub record AreChained (serial before : ℕ → ℕ) (chains : ℕ) (head : ℕ → ℕ) (made : ℕ) : Type 0 where
  pub filled : 0 < chains
  pub apart : (s t : ℕ) → serial s ≡ serial t → 0 < serial s → s ≡ t
  pub below : (slot : ℕ) → serial slot < made
  pub firsts : (chain : ℕ) → chain < chains → IsNext serial chains chain made (head chain)
  pub befores : (slot : ℕ) → 0 < serial slot → IsNext serial chains (chain_by chains (serial slot)) (serial slot) (before slot)

-- the spots are on these chains
abbrev pub AreLinked : List Spot → List ℕ → ℕ → Type 0
AreLinked spots heads made = AreChained (serial_at spots) (before_at spots) (length heads) (head_at heads) made

-- the spots are on these chains, and the serial is one that was given
pub record IsSought (spots : List Spot) (heads : List ℕ) (wanted : ℕ) : Type 0 where
  pub made : ℕ
  pub linked : AreLinked spots heads made
  pub given : wanted < made

-- the one link leads to the object with that serial, and is 0 where there is none; the other leads to the object before it
-- on the chain, and is 0 where it is the first
pub record IsReached (serial before : ℕ → ℕ) (chains : ℕ) (head : ℕ → ℕ) (wanted newer at : ℕ) : Type 0 where
  pub there : (slot : ℕ) → at ≡ suc slot → serial slot ≡ wanted
  pub live : (slot : ℕ) → at ≡ suc slot → 0 < serial slot
  pub none : at ≡ 0 → (slot : ℕ) → serial slot ≡ wanted → wanted ≡ 0
  pub first : (slot : ℕ) → at ≡ suc slot → newer ≡ 0 → head (chain_by chains wanted) ≡ at
  pub passed : (slot other : ℕ) → at ≡ suc slot → newer ≡ suc other → (before other ≡ at) × (wanted < serial other) × (chain_by chains (serial other) ≡ chain_by chains wanted)

-- the slot of that serial, where there is one, is free, and all else is as it was
pub record IsRemoved (spots after : List Spot) (wanted : ℕ) : Type 0 where
  pub gone : (slot : ℕ) → serial_at spots slot ≡ wanted → serial_at after slot ≡ 0
  pub serials : (slot : ℕ) → serial_at spots slot ≢ wanted → serial_at after slot ≡ serial_at spots slot
  pub stamps : (slot : ℕ) → serial_at spots slot ≢ wanted → (spot_at after slot).stamp ≡ (spot_at spots slot).stamp
  pub nexts : (slot : ℕ) → serial_at spots slot ≢ wanted → (spot_at after slot).next ≡ (spot_at spots slot).next
  pub low : (slot : ℕ) → (spot_at after slot).stamp ≤ (spot_at spots slot).stamp

-- the slot has an unmarked object of that serial, and all else is as it was
pub record IsInserted (spots after : List Spot) (slot serial : ℕ) : Type 0 where
  pub there : serial_at after slot ≡ serial
  pub plain : (spot_at after slot).stamp ≡ 0
  pub others : (other : ℕ) → other ≢ slot → spot_at after other ≡ spot_at spots other
