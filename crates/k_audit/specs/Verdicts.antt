-- What the audit answers.
use Rattle.std.specs.Prelude.{◌≡◌, ◌<◌, ◌≤◌, ◌==◌, ℕ, List, [], ◌∷◌, length, map, take, if◌then◌else◌}
use Rattle.std.specs.List.{join_with_byte}
use Rattle.k_types.specs.Owners.{owner_of}
use Rattle.k_types.specs.Sound.{AreExits, AreGone, AreGuarded, AreNames, ArePhases, HasNoDangling}
use Rattle.k_types.specs.Trace.{Trace}
use Rattle.k_words.specs.Words.{Text}
use Rattle.k_trace.specs.Named.{DeclaredNames}
use Rattle.k_audit.specs.Grammar.{IsSpelledSnap}
use Rattle.k_audit.specs.Lines.{snap_lines, snap_text}
use Rattle.k_audit.specs.Claims.{Snap, claims_of}
use Rattle.k_audit.specs.Sums.{UsesFit}
use Rattle.k_audit.specs.declared.verdicts.Verdict.{Verdict}
use Rattle.k_audit.specs.declared.verdicts.Verdict.TheVariants.{Sound, Line, Point}

-- The bytes are the text of that snapshot over the header.
pub record Spells (names : DeclaredNames) (trace : Trace) (bytes : Text) (snap : Snap) : Type 0 where
  pub spelled : IsSpelledSnap trace snap
  pub text : snap_text names trace snap ≡ bytes

-- The byte before the first of the lines that follow; nothing where no line feed follows.
abbrev pub onto_fed : ℕ → List Text → List Text
onto_fed b [] = []
onto_fed b (line ∷ lines) = (b ∷ line) ∷ lines

-- The lines that end with a line feed, without it.
abbrev pub fed_lines : Text → List Text
fed_lines [] = []
fed_lines (b ∷ bytes) = if b == 10 then [] ∷ fed_lines bytes else onto_fed b (fed_lines bytes)

-- The bytes have n lines that end with a line feed, and some snapshot's text begins with them.
pub record Fits (names : DeclaredNames) (trace : Trace) (bytes : Text) (n : ℕ) : Type 0 where
  pub snap : Snap
  pub spelled : IsSpelledSnap trace snap
  pub there : n ≤ length (fed_lines bytes)
  pub same : take n (fed_lines bytes) ≡ take n (map (join_with_byte 32) (snap_lines names trace snap))

-- The bytes are no snapshot's text, and line n is the first that does not fit, is missing, has no line feed or is too many.
pub record IsBadLine (names : DeclaredNames) (trace : Trace) (bytes : Text) (n : ℕ) : Type 0 where
  pub no_text : (snap : Snap) → Spells names trace bytes snap → ⊥
  pub from_one : 0 < n
  pub before : (m : ℕ) → m < n → Fits names trace bytes m
  pub here : Fits names trace bytes n → ⊥

-- The point of that number holds. The first seven are those of a sound state; the eighth is that what the snapshot claims is so.
pub record HoldsAt (trace : Trace) (snap : Snap) (k : ℕ) : Type 0 where
  pub names : k ≡ 1 → AreNames snap.state.objects snap.state.made
  pub no_dangling : k ≡ 2 → HasNoDangling snap.state
  pub guarded : k ≡ 3 → AreGuarded (owner_of trace snap.state) snap.state.objects snap.state.exits
  pub exits : k ≡ 4 → AreExits (owner_of trace snap.state) snap.state.exits
  pub gone : k ≡ 5 → AreGone snap.state
  pub phases : k ≡ 6 → ArePhases trace snap.state
  pub uses : k ≡ 7 → UsesFit trace snap.state
  pub claims : k ≡ 8 → snap.claims ≡ claims_of trace snap.state

-- The point of number k is the lowest that does not hold.
pub record IsLowestFalse (trace : Trace) (snap : Snap) (k : ℕ) : Type 0 where
  pub from_one : 0 < k
  pub eight : k ≤ 8
  pub below : (j : ℕ) → j < k → HoldsAt trace snap j
  pub not_here : HoldsAt trace snap k → ⊥

-- The bytes spell a snapshot, and the point of number k is the lowest that does not hold.
pub record IsBadPoint (names : DeclaredNames) (trace : Trace) (bytes : Text) (k : ℕ) : Type 0 where
  pub snap : Snap
  pub spells : Spells names trace bytes snap
  pub lowest : IsLowestFalse trace snap k

-- The bytes spell a snapshot, and all its points hold.
pub record IsSoundText (names : DeclaredNames) (trace : Trace) (bytes : Text) : Type 0 where
  pub snap : Snap
  pub spells : Spells names trace bytes snap
  pub all : (k : ℕ) → HoldsAt trace snap k

-- The verdict is the one that the bytes deserve.
abbrev pub IsVerdict : DeclaredNames → Trace → Text → Verdict → Type 0
IsVerdict names trace bytes Sound = IsSoundText names trace bytes
IsVerdict names trace bytes (Line n) = IsBadLine names trace bytes n
IsVerdict names trace bytes (Point k) = IsBadPoint names trace bytes k
