-- A cell that agrees can be marked.
use Rattle.std.proofs.Common.{◌≡◌, not, Bool, true, false, cond, sym, ap, ◌∙◌, Some, None, is_some, get_or, List, refl, subst}
use Rattle.std.proofs.lemmas.Bool.{and_parts, false≢true}
use Rattle.k_types.specs.Agree.{CellValue}
use Rattle.k_types.specs.Cells.{Cell, ShownPart, part}
use Rattle.k_types.specs.Names.{heap_eq}
use Rattle.k_types.specs.Owners.{owner_of}
use Rattle.k_types.specs.Sound.{IsSound}
use Rattle.k_types.specs.State.{Object, State, has_exit, refers_in}
use Rattle.k_types.specs.Trace.{Trace}
use Rattle.k_types.proofs.NameTests.{heap_eq-true, heap_eq_sym}
use Rattle.k_types.proofs.Objects.{refers_in-kept}
use Rattle.k_tie.specs.Values.{NoteValue}
use Rattle.k_agree.specs.Agreement.{Agrees, Shows}
use Rattle.k_agree.proofs.AtTheEnd.{cell_sound}
use Rattle.k_agree.proofs.Marked.{marked_agrees}
use Rattle.k_commit.specs.k_cell.Changes.{HasItsExits, HasMarked}
use Rattle.k_collect.specs.Marking.{CanMark, HasMarkedOn}

not_owned : {A : Type 0} (b : Bool) (x : A) → not (is_some (cond b (Some x) None)) ≡ true → b ≡ false
not_owned true x e = absurd (false≢true e)
not_owned false x e = refl

-- a reference out of the heap has its exit item
pub shown_exits : (trace : Trace) (st : State) (cell : Cell) (v : CellValue) → IsSound trace st → Shows trace st cell v → HasItsExits v
unfolding part
shown_exits trace st cell v sound shows x n refers foreign =
    let objects = ap (λ (s : ShownPart). s.objects) shows.part in
    let made = ap (λ (s : ShownPart). s.made n.seg.0) shows.part in
    let exits = ap (λ (s : ShownPart). s.exits n) shows.part in
    let both = and_parts (refers_in st.objects x n) (heap_eq (owner_of trace st x.seg.0) cell)
    (sym (refers_in-kept (λ m. heap_eq (owner_of trace st m.seg.0) cell) st.objects x n) ∙ sym (ap (λ (os : List Object). refers_in os x n) objects) ∙ refers) in
    let own : owner_of trace st x.seg.0 ≡ cell = heap_eq-true (owner_of trace st x.seg.0) cell both.1 in
    let out : heap_eq (owner_of trace st n.seg.0) cell ≡ false = not_owned (heap_eq (owner_of trace st n.seg.0) cell) (get_or st.made n.seg.0 0) (sym (ap (λ m. not (is_some m)) made) ∙ foreign) in
    exits
    ∙ ap (λ h. has_exit st.exits h n) (sym own)
    ∙ sound.guarded.listed x n both.0 (ap (λ h. heap_eq h (owner_of trace st n.seg.0)) own ∙ heap_eq_sym cell (owner_of trace st n.seg.0) ∙ out)

pub can_be_marked : (trace : Trace) (cell : Cell) (note : NoteValue) (v : CellValue) → CanMark trace cell note v → HasItsExits v
can_be_marked trace cell note v can = shown_exits trace _ cell v (cell_sound trace cell note v can.keeps.limits can.agrees) can.agrees.shows

pub marked_on : (trace : Trace) (cell : Cell) (note : NoteValue) (v w : CellValue) → CanMark trace cell note v → HasMarked v w → HasMarkedOn trace cell note v w
marked_on trace cell note v w can marks = record {
  rest = marks.rest;
  agrees = subst (λ (x : CellValue). Agrees trace cell note x) (sym marks.rest) (marked_agrees trace cell note v w.black w.black_exits can.keeps.limits can.agrees can.begun marks.reached);
  phase = ap (λ (x : CellValue). x.collection) marks.rest;
}
