-- A field of an object that is looked up in a segment lent by its area, and is written there.
use Rattle.std.proofs.Common.{◌≡◌, ◌⊎◌, inl, inr, ℕ, zero, suc, Bool, true, false, refl, sym, ap, subst, ◌∙◌, List, [], ◌∷◌, set, slice_get, slice_set, Option, Some, None, option_map}
use Rattle.k_mark.specs.k_types.declared.names.Name.{Name}
use Rattle.k_mark.specs.k_types.declared.names.Field.{Field}
use Rattle.k_mark.specs.k_types.declared.names.Field.TheVariants.{Int, Ref}
use Rattle.k_mark.specs.k_types.State.{Content, Holds, Refers, field_kind}
use Rattle.k_mark.specs.k_space.Objects.{HasInt, HasRef}
use Rattle.k_mark.specs.k_space.Segments.{LiesAt, Row, SegmentValue, row_at, with_row}
use Rattle.k_mark.specs.k_space.Areas.{AreaValue, place_of, row_in_segment, row_of_name, segment_at, with_row_in, with_segment}
use Rattle.k_mark.proofs.Lists.{some_one}
use Rattle.k_cell.specs.Looks.{holds_int, holds_ref, row_fields}
use Rattle.k_cell.specs.Placed.{IsWrittenIf, IsWrittenIn}

set_there : {A : Type 0} (xs : List A) (i : ℕ) (x : A) → slice_get xs i ≡ Some x → set xs i x ≡ xs
set_there [] i x e = refl
set_there (y ∷ ys) zero x e = ap (λ z. z ∷ ys) (sym (some_one e))
set_there (y ∷ ys) (suc i) x e = ap (λ zs. y ∷ zs) (set_there ys i x e)

-- a segment given back as it was lent
pub lent_same : (a : AreaValue) (number : ℕ) (s : SegmentValue) → segment_at a.segments number ≡ Some s → with_segment a number s ≡ a
lent_same a number s there = ap (λ (segments : List SegmentValue). record a { segments = segments }) (set_there a.segments (place_of a.segments number) s there)

pub written_if : (b : Bool) (a new : AreaValue) (at : Name) (field : ℕ) (content : Content) → b ≡ true → IsWrittenIn a new at field content → IsWrittenIf b a new at field content
written_if b a new at field content e w = subst (λ c. IsWrittenIf c a new at field content) (sym e) w

pub same_if : (b : Bool) (a new : AreaValue) (at : Name) (field : ℕ) (content : Content) → b ≡ false → new ≡ a → IsWrittenIf b a new at field content
same_if b a new at field content e same = subst (λ c. IsWrittenIf c a new at field content) (sym e) same

-- the kind of a field tells what it holds
pub holds_int_of : (o : Option Content) (kind : Option Field) → kind ≡ option_map field_kind o → (kind ≡ None) ⊎ (kind ≡ Some Ref) → holds_int o ≡ false
holds_int_of None kind e not_int = refl
holds_int_of (Some (Refers target)) kind e not_int = refl
holds_int_of (Some (Holds n)) kind e (inl none) = absurd (cc)
holds_int_of (Some (Holds n)) kind e (inr ref) = absurd (cc)

pub holds_ref_of : (o : Option Content) (kind : Option Field) → kind ≡ option_map field_kind o → (kind ≡ None) ⊎ (kind ≡ Some Int) → holds_ref o ≡ false
holds_ref_of None kind e not_ref = refl
holds_ref_of (Some (Holds n)) kind e not_ref = refl
holds_ref_of (Some (Refers target)) kind e (inl none) = absurd (cc)
holds_ref_of (Some (Refers target)) kind e (inr int) = absurd (cc)

int_there : (fields : List Content) (field : ℕ) (o : Option Content) → slice_get fields field ≡ o → Some Int ≡ option_map field_kind o → HasInt fields field
int_there fields field None e int = absurd (cc)
int_there fields field (Some (Refers target)) e int = absurd (cc)
int_there fields field (Some (Holds n)) e int = record { number = n; is = e }

pub has_int : (fields : List Content) (field : ℕ) → Some Int ≡ option_map field_kind (slice_get fields field) → HasInt fields field
has_int fields field int = int_there fields field (slice_get fields field) refl int

ref_there : (fields : List Content) (field : ℕ) (o : Option Content) → slice_get fields field ≡ o → Some Ref ≡ option_map field_kind o → HasRef fields field
ref_there fields field None e ref = absurd (cc)
ref_there fields field (Some (Holds n)) e ref = absurd (cc)
ref_there fields field (Some (Refers target)) e ref = record { target = target; is = e }

pub has_ref : (fields : List Content) (field : ℕ) → Some Ref ≡ option_map field_kind (slice_get fields field) → HasRef fields field
has_ref fields field ref = ref_there fields field (slice_get fields field) refl ref

-- the segment has no such object
pub none_there : (a : AreaValue) (at : Name) (s : SegmentValue) (field : ℕ) → segment_at a.segments at.seg.0 ≡ Some s → None ≡ option_map (λ (row : Row). row.slot) (row_at s at.serial.0) →
    slice_get (row_fields (row_of_name a.segments at)) field ≡ None
none_there a at s field there none = ap (λ o. slice_get (row_fields (row_in_segment o at.serial.0)) field) there ∙ by_row (row_at s at.serial.0) none
  where
    by_row : (o : Option Row) → None ≡ option_map (λ (row : Row). row.slot) o → slice_get (row_fields o) field ≡ None
    by_row None e = refl
    by_row (Some row) e = absurd (cc)

-- the object lies in that slot of the segment
module _ (a : AreaValue) (at : Name) (s : SegmentValue) (slot : ℕ) (there : segment_at a.segments at.seg.0 ≡ Some s) (near : Some slot ≡ option_map (λ (row : Row). row.slot) (row_at s at.serial.0)) where
  its_row : (row : Row) × (row_of_name a.segments at ≡ Some row) × LiesAt s slot at.serial.0 row
  its_row = by_row (row_at s at.serial.0) refl near
    where
      by_row : (o : Option Row) → row_at s at.serial.0 ≡ o → Some slot ≡ option_map (λ (row : Row). row.slot) o → (row : Row) × (row_of_name a.segments at ≡ Some row) × LiesAt s slot at.serial.0 row
      by_row None e n = absurd (cc)
      by_row (Some row) e n = (row, ap (λ o. row_in_segment o at.serial.0) there ∙ e, record { there = e; slot_is = sym (some_one n) })

  -- the kind of a field
  pub kind_there : (field : ℕ) (kind : Option Field) → ((serial : ℕ) (row : Row) → LiesAt s slot serial row → kind ≡ option_map field_kind (slice_get row.fields field)) → kind ≡ option_map field_kind (slice_get (row_fields (row_of_name a.segments at)) field)
  kind_there field kind is = is at.serial.0 its_row.0 its_row.2 ∙ sym (ap (λ o. option_map field_kind (slice_get (row_fields o) field)) its_row.1)

  pub written_there : (new : SegmentValue) (field : ℕ) (content : Content) →
      ((serial : ℕ) (row : Row) → LiesAt s slot serial row → new ≡ with_row s serial (Some (record row { fields = slice_set row.fields field content }))) →
      IsWrittenIn a (with_segment a at.seg.0 new) at field content
  written_there new field content is = record {
    row = its_row.0;
    there = its_row.1;
    written =
        ap (with_segment a at.seg.0) (is at.serial.0 its_row.0 its_row.2)
        ∙ sym (ap (with_row_in a at (Some (record its_row.0 { fields = slice_set its_row.0.fields field content }))) there);
  }
