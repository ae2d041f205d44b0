-- A segment that is given to the kernel whole.
use Rattle.std.proofs.Common.{◌≡◌, ℕ, ◌+◌, ◌<◌, ◌^◌, refl, sym, ap, ap₂, ◌∙◌, [], get_or, set, get_or-set_same, get_or-set_other, length, Option, Some, None, arith, inl, inr}
use Rattle.std.proofs.lemmas.Bool.{cases_eq}
use Rattle.k_types.specs.Owners.{object_bytes}
use Rattle.k_types.specs.Totals.{total}
use Rattle.k_types.proofs.Lists.{some_inside}
use Rattle.k_space.specs.Segments.{SegmentValue, made, segment_bytes, segment_objects}
use Rattle.k_mark.proofs.Joined.{alone_area, joined_area, none_area}
use Rattle.k_commit.specs.k_cell.Holdings.{HasGivenSegment, HoldingsValue, with_segment_added}
use Rattle.k_laws.specs.CellChanges.{either_of, with_objects}
use Rattle.k_own.specs.Segments.{CanGive, HasGiven}

-- the objects of a segment stand in order, so that they are what is put into their places among none
alone_placed : (s : SegmentValue) → with_objects (segment_objects s) [] ≡ segment_objects s
alone_placed s =
    ap (with_objects (segment_objects s)) (sym (none_area (s.number + 1)))
    ∙ sym (joined_area [] (s.number + 1) s (omega arith) refl)
    ∙ alone_area (s.number + 1) s (omega arith)

either_none : (o : Option ℕ) → either_of o None ≡ o
either_none None = refl
either_none (Some n) = refl

module _ (seg : ℕ) (heap given kernel : HoldingsValue) (s : SegmentValue) (can : CanGive seg heap kernel) (g : HasGivenSegment heap given seg s) where
  inside : seg < length heap.value.made
  inside = some_inside heap.value.made seg (made s) g.made

  made_is : given.value.made ≡ set heap.value.made seg None
  made_is = ap (λ (h : HoldingsValue). h.value.made) g.rest

  none_made : (k : ℕ) → get_or given.value.made k None ≡ None
  none_made k =
      ap (λ xs. get_or xs k None) made_is
      ∙ (elim (cases_eq k seg) [
        | inl same ↦ ap (λ j. get_or (set heap.value.made seg None) j None) same ∙ get_or-set_same heap.value.made seg None None inside
        | inr other ↦ get_or-set_other heap.value.made seg k None None other ∙ can.alone k other
      ])

  nothing : given.value.objects ≡ []
  nothing = g.empty none_made

  pub objects_are : heap.value.objects ≡ segment_objects s
  objects_are = g.parts ∙ ap (with_objects (segment_objects s)) nothing ∙ alone_placed s

  pub bytes_fit : total object_bytes kernel.value.objects + segment_bytes s < 2 ^ 64
  bytes_fit = let same = ap (total object_bytes) objects_are in let bytes = can.bytes in omega (arith, same, bytes)

  module _ (taken : HoldingsValue) (added : taken ≡ with_segment_added s kernel) (there : get_or taken.value.made s.number None ≡ Some (made s)) where
    made_taken : (k : ℕ) → get_or taken.value.made k None ≡ either_of (get_or kernel.value.made k None) (get_or heap.value.made k None)
    made_taken k =
        elim (cases_eq k seg) [
          | inl same ↦
              ap (λ j. get_or taken.value.made j None) (same ∙ sym g.number_is) ∙ there ∙ sym g.made
              ∙ ap (λ (o : Option ℕ). either_of o (get_or heap.value.made seg None)) (sym can.new)
              ∙ ap (λ j. either_of (get_or kernel.value.made j None) (get_or heap.value.made j None)) (sym same)
          | inr other ↦
              ap (λ (h : HoldingsValue). get_or h.value.made k None) added
              ∙ get_or-set_other kernel.value.made s.number k (Some (made s)) None (λ e. other (e ∙ g.number_is))
              ∙ sym (ap (either_of (get_or kernel.value.made k None)) (can.alone k other) ∙ either_none (get_or kernel.value.made k None))
        ]

    pub all_given : HasGiven seg heap given kernel taken
    all_given = record {
      given_is =
          g.rest
          ∙ ap₂ (λ objects list. record heap { value = record heap.value { objects = objects; made = list }; serial_rooms = set heap.serial_rooms seg None })
          (sym (ap (λ (h : HoldingsValue). h.value.objects) g.rest) ∙ nothing) (sym made_is);
      none = none_made;
      taken_is =
          added
          ∙ ap₂ (λ objects list. record kernel { value = record kernel.value { objects = objects; made = list }; serial_rooms = set kernel.serial_rooms s.number (Some s.room) })
          (ap (λ objects. with_objects objects kernel.value.objects) (sym objects_are)) (sym (ap (λ (h : HoldingsValue). h.value.made) added))
          ∙ ap₂ (λ number room. record kernel { value = record kernel.value { objects = with_objects heap.value.objects kernel.value.objects; made = taken.value.made }; serial_rooms = set kernel.serial_rooms number room })
          g.number_is (sym g.room);
      made = made_taken;
    }
