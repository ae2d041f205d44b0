-- Samples, and lists of them in the order in which they were published or taken.
use Rattle.std.specs.Prelude.{◌≡◌, ℕ, ◌<◌, ◌≤◌, ◌^◌, ◌⊎◌, List, [], ◌∷◌, ◌++◌, slice_index}
use Rattle.k_watch.specs.declared.sample.Sample.{Sample}

-- a sample by its numbers
abbrev pub sample : ℕ → ℕ → ℕ → Sample
sample events root_use living = record { events = events; root_use = root_use; living = living }

-- the words of a sample
abbrev pub words_of : Sample → List ℕ
words_of s = s.events ∷ s.root_use ∷ s.living ∷ []

-- the sample of these words
abbrev pub sample_in : List ℕ → Sample
sample_in words = sample (slice_index words 0) (slice_index words 1) (slice_index words 2)

-- the first number of the sample fits 64 bits, and the last 32
abbrev pub IsSmall : Sample → Type 0
IsSmall s = (s.events < 2 ^ 64) × (s.living < 2 ^ 32)

-- none of these has more events
abbrev pub AllBelow : ℕ → List Sample → Type 0
AllBelow n [] = Unit {0}
AllBelow n (s ∷ ss) = (s.events ≤ n) × AllBelow n ss

-- none of these has fewer events
abbrev pub AllFrom : ℕ → List Sample → Type 0
AllFrom n [] = Unit {0}
AllFrom n (s ∷ ss) = (n ≤ s.events) × AllFrom n ss

-- the numbers of events never fall
abbrev pub IsRising : List Sample → Type 0
IsRising [] = Unit {0}
IsRising (s ∷ ss) = AllFrom s.events ss × IsRising ss

-- the sample is one of these
abbrev pub IsAmong : Sample → List Sample → Type 0
IsAmong s [] = ⊥
IsAmong s (t ∷ ts) = (t ≡ s) ⊎ IsAmong s ts

-- so is each of the first ones
abbrev pub AllAmong : List Sample → List Sample → Type 0
AllAmong [] ts = Unit {0}
AllAmong (s ∷ ss) ts = IsAmong s ts × AllAmong ss ts

-- the events of the last one; 0 where there is none
abbrev pub newest_of : List Sample → ℕ
newest_of [] = 0
newest_of (s ∷ []) = s.events
newest_of (s ∷ t ∷ ts) = newest_of (t ∷ ts)

-- the sample is the last of these
abbrev pub IsLast : Sample → List Sample → Type 0
IsLast s ss = (before : List Sample) × (ss ≡ before ++ s ∷ [])
