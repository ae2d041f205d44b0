-- That the references of the measured objects lead to objects of their own segment, or have exit items.
use Rattle.std.specs.Prelude.{◌≡◌, ◌⊎◌, ℕ, List, [], ◌∷◌, slice_get, Some, IsFalse, IsTrue}
use Rattle.k_types.specs.declared.names.Name.{Name}
use Rattle.k_types.specs.State.{Content, Refers}
use Rattle.k_space.specs.Objects.{BodyValue}
use Rattle.k_space.specs.Segments.{SegmentValue, Row, row_at}
use Rattle.k_space.specs.Areas.{AreaValue, HasDistinct, black_at}
use Rattle.k_exit.specs.Exits.{ExitRow, has_target}

-- every reference that isn't null leads to such an object
abbrev pub LeadTo : (Name → Type 0) → List Content → Type 0
LeadTo Is fields = (field : ℕ) (n : Name) → slice_get fields field ≡ Some (Refers (Some n)) → Is n

-- every reference is null
abbrev pub LeadNowhere : List Content → Type 0
LeadNowhere fields = LeadTo (λ n. ⊥) fields

-- each object of the segment refers to such objects alone
abbrev pub AllLeadTo : (Name → Type 0) → SegmentValue → Type 0
AllLeadTo Is s = (serial : ℕ) (row : Row) → row_at s serial ≡ Some row → LeadTo Is row.fields

-- the object lies in that segment
abbrev pub IsInside : ℕ → Name → Type 0
IsInside number n = n.seg.0 ≡ number

-- the object lies in that segment, or has an exit item
abbrev pub IsInsideOrExit : ℕ → List ExitRow → Name → Type 0
IsInsideOrExit number exits n = IsInside number n ⊎ IsTrue (has_target exits n)

-- no object of the segment refers to one outside it
abbrev pub KeepsInside : SegmentValue → Type 0
KeepsInside s = AllLeadTo (IsInside s.number) s

-- no object of the segment refers to one outside it that has no exit item
abbrev pub KeepsExits : List ExitRow → SegmentValue → Type 0
KeepsExits exits s = AllLeadTo (IsInsideOrExit s.number exits) s

-- new bodies, with no reference
abbrev pub AreNew : List BodyValue → Type 0
AreNew bodies = (i : ℕ) (b : BodyValue) → slice_get bodies i ≡ Some b → LeadNowhere b.fields

-- the area is one segment, whose objects refer to none outside it
pub record IsOne (a : AreaValue) : Type 0 where
  pub segment : SegmentValue
  pub only : a.segments ≡ segment ∷ []
  pub inside : KeepsInside segment

-- the area is one segment, whose objects refer to none outside it that has no exit item
pub record IsOneWith (exits : List ExitRow) (a : AreaValue) : Type 0 where
  pub segment : SegmentValue
  pub only : a.segments ≡ segment ∷ []
  pub kept : KeepsExits exits segment

-- the segments have different numbers, and no object refers to one outside its own
pub record AreInside (segments : List SegmentValue) : Type 0 where
  pub distinct : HasDistinct segments
  pub each : (i : ℕ) (s : SegmentValue) → slice_get segments i ≡ Some s → KeepsInside s

-- no object is black
abbrev pub HasNoBlack : AreaValue → Type 0
HasNoBlack a = (n : Name) → IsFalse (black_at a n)
