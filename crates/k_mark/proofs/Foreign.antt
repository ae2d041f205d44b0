-- What the objects of an area say of names.
use Rattle.std.proofs.Common.{◌≡◌, not, ℕ, Bool, true, false, cond, refl, sym, ap, ◌∙◌, List, Option, Some, None, is_some, option_map}
use Rattle.std.proofs.lemmas.Bool.{and_from, and_parts}
use Rattle.k_laws.specs.k_types.declared.names.Name.{Name}
use Rattle.k_laws.specs.k_types.Names.{name_eq, heap_eq}
use Rattle.k_laws.specs.k_types.Trace.{Trace}
use Rattle.k_laws.specs.k_types.State.{State, Object, has, refers_in}
use Rattle.k_laws.specs.k_types.Owners.{owner_of}
use Rattle.k_laws.specs.k_types.Sound.{HasNoDangling}
use Rattle.k_laws.specs.k_types.Cells.{Cell, CellPart, part}
use Rattle.k_exit.proofs.Objects.{has-kept, refers_in-kept}
use Rattle.k_space.specs.Segments.{Row, SegmentValue, made}
use Rattle.k_space.specs.Areas.{AreaValue, segment_at, row_in_segment, row_of_name}
use Rattle.k_laws.proofs.NameTests.{name_eq_refl}
use Rattle.k_mark.specs.Shown.{area_objects, HasNoneFrom}
use Rattle.k_mark.specs.Parts.{ShowsPart, IsSoundInside, AreForeignTold}
use Rattle.k_mark.proofs.Shown.{at_row, any_area}

-- an object of that name is there
is_there : (n : Name) (o : Option Row) → at_row (λ (x : Object). name_eq x.name n) n o ≡ is_some o
is_there n None = refl
is_there n (Some row) = name_eq_refl n

pub area_has : (segments : List SegmentValue) (bound : ℕ) → HasNoneFrom segments bound → (n : Name) → has (area_objects bound segments) n ≡ is_some (row_of_name segments n)
area_has segments bound none n = any_area (λ (x : Object). name_eq x.name n) n (λ o e. e) segments bound none ∙ is_there n (row_of_name segments n)

-- what an object of the part refers to
pub foreign_told : (bound : ℕ) (a : AreaValue) (c : CellPart) → ShowsPart bound a.segments c → IsSoundInside c → AreForeignTold a c
foreign_told bound a c sh inside x n refers = by_segment (segment_at a.segments n.seg.0) refl
  where
    found : has c.objects n ≡ is_some (row_of_name a.segments n)
    found = ap (λ (os : List Object). has os n) sh.objects ∙ area_has a.segments bound sh.numbered.none n

    by_segment : (o : Option SegmentValue) → segment_at a.segments n.seg.0 ≡ o → not (is_some o) ≡ not (has c.objects n)
    by_segment None at = ap not (sym (found ∙ ap (λ (o : Option SegmentValue). is_some (row_in_segment o n.serial.0)) at))
    by_segment (Some s) at = ap not (sym (inside x n refers (ap is_some (sh.given n.seg.0 ∙ ap (option_map made) at))))

-- and of the part of a state
own_segment : (b : Bool) (k : ℕ) → is_some (cond b (Some k) None) ≡ true → b ≡ true
own_segment true k e = refl
own_segment false k e = absurd (cc)

pub sound_inside : (trace : Trace) (st : State) (cell : Cell) → HasNoDangling st → IsSoundInside (part trace st cell)
unfolding part
sound_inside trace st cell sound x n refers own =
    let stays : Name → Bool = λ m. heap_eq (owner_of trace st m.seg.0) cell in
    let there = sound.fields x n (and_parts (refers_in st.objects x n) (stays x) (sym (refers_in-kept stays st.objects x n) ∙ refers)).0 in
    has-kept stays st.objects n ∙ and_from (has st.objects n) (stays n) there (own_segment (stays n) _ own)
