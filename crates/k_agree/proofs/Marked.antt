-- A cell whose objects are marked.
use Rattle.std.proofs.Common.{◌≡◌, ℕ, ◌&&◌, not, Bool, true, false, cond, refl, sym, ap, ◌∙◌, subst, List, ◌++◌, length, filter, get_or, Some, None, is_some}
use Rattle.std.specs.List.{list_any}
use Rattle.std.proofs.Math.Path.{fun_ext}
use Rattle.k_laws.specs.k_types.declared.names.CellPhase.TheVariants.{Begun, Marked}
use Rattle.k_laws.specs.k_types.declared.names.Name.{Name}
use Rattle.k_laws.specs.k_types.Agree.{CellValue, AreMarks}
use Rattle.k_laws.specs.k_types.Cells.{Cell, ShownPart, part, made_of}
use Rattle.k_laws.specs.k_types.Names.{heap_eq, name_among}
use Rattle.k_laws.specs.k_types.Owners.{owner_of, objects_of}
use Rattle.k_laws.specs.k_types.Reach.{closure, reach_among, reach_in}
use Rattle.k_laws.specs.k_types.Sound.{IsSound}
use Rattle.k_laws.specs.k_types.State.{State, Object, opening, has, refers, refers_in, scan_of}
use Rattle.k_laws.specs.k_types.Steps.{state_after}
use Rattle.k_laws.specs.k_types.Trace.{Trace}
use Rattle.k_laws.specs.k_types.TraceRules.{AreLimits}
use Rattle.k_tie.proofs.Objects.{has-kept, referrer}
use Rattle.k_laws.proofs.Means.{reach_is, reached_refers}
use Rattle.k_laws.proofs.SoundOpening.{opening_sound}
use Rattle.k_laws.proofs.SoundSteps.{run_sound}
use Rattle.k_tie.specs.Values.{NoteValue}
use Rattle.k_agree.specs.Agreement.{Shows, Agrees}
use Rattle.k_agree.specs.Marking.{marked, is_foreign_in, AreReached}

owned_bit : {A : Type 0} (b : Bool) (x : A) → is_some (cond b (Some x) None) ≡ b
owned_bit true x = refl
owned_bit false x = refl

and_none : (a b c : Bool) → (c ≡ true → a ≡ b) → (a && c) ≡ (b && c)
and_none a b true same = ap (λ x. x && true) (same refl)
and_none true true false same = refl
and_none true false false same = refl
and_none false true false same = refl
and_none false false false same = refl

module _ (trace : Trace) (st : State) (sound : IsSound trace st) (cell : Cell) (value : CellValue) (shows : Shows trace st cell value) where
  objects_are : value.objects ≡ objects_of (owner_of trace st) cell st.objects
  unfolding part
  objects_are = ap (λ (s : ShownPart). s.objects) shows.part

  made_are : (seg : ℕ) → get_or value.made seg None ≡ made_of (owner_of trace st) st.made cell seg
  unfolding part
  made_are seg = ap (λ (s : ShownPart). s.made seg) shows.part

  -- an object of the state is one of the cell's exactly where it lies in a segment of the cell's heap
  own_or_foreign : (n : Name) → has st.objects n ≡ true → is_foreign_in value n ≡ not (has value.objects n)
  own_or_foreign n there =
      ap not
      (ap is_some (made_are n.seg.0)
      ∙ owned_bit (heap_eq (owner_of trace st n.seg.0) cell) (get_or st.made n.seg.0 0)
      ∙ sym (ap (λ os. has os n) objects_are ∙ has-kept (λ m. heap_eq (owner_of trace st m.seg.0) cell) st.objects n ∙ ap (λ b. b && heap_eq (owner_of trace st n.seg.0) cell) there))

  referred_there : (roots : List Name) (opened : scan_of st.scans cell ≡ Some roots) (n : Name) → list_any (λ x. refers x n) (reach_among value.objects roots) ≡ true → has st.objects n ≡ true
  referred_there roots opened n t =
      let same : reach_among value.objects roots ≡ reach_in trace st cell roots = ap (λ os. reach_among os roots) objects_are ∙ sym (reach_is trace st cell roots) in
      let from = referrer (reach_among value.objects roots) n t in
      sound.no_dangling.fields from.0 n
      (reached_refers trace st sound cell roots opened roots from.0 n (subst (λ os. refers_in os from.0 n ≡ true) same from.1)).0

  reach_same : (gray roots : List Name) → ((n : Name) → name_among n gray ≡ name_among n roots) → reach_among value.objects gray ≡ reach_among value.objects roots
  reach_same gray roots same =
      ap (λ p. closure (length value.objects) value.objects (filter p value.objects)) (fun_ext (λ (o : Object). same o.name))

  marks : (black black_exits : List Name) → AreReached value black black_exits → AreMarks Begun (scan_of st.scans cell) value → AreMarks Marked (scan_of st.scans cell) (marked black black_exits value)
  marks black black_exits reached begun =
      let roots = begun.0 in
      let same = reach_same value.gray roots begun.2 in (
        roots,
        begun.1,
        refl,
        λ n. reached.objects n ∙ ap (λ os. has os n) same,
        λ n.
            reached.exits n
            ∙ ap (λ os. is_foreign_in value n && list_any (λ x. refers x n) os) same
            ∙ and_none (is_foreign_in value n) (not (has value.objects n)) (list_any (λ x. refers x n) (reach_among value.objects roots))
            (λ t. own_or_foreign n (referred_there roots begun.1 n t)),
      )

  pub marked_shows : (black black_exits : List Name) → value.collection ≡ Begun → AreReached value black black_exits → Shows trace st cell (marked black black_exits value)
  marked_shows black black_exits phase reached = record {
    part = shows.part;
    marks = marks black black_exits reached (subst (λ k. AreMarks k (scan_of st.scans cell) value) phase shows.marks);
  }

pub marked_agrees : (trace : Trace) (cell : Cell) (note : NoteValue) (value : CellValue) (black black_exits : List Name) → AreLimits trace → Agrees trace cell note value → value.collection ≡ Begun →
    AreReached value black black_exits → Agrees trace cell note (marked black black_exits value)
marked_agrees trace cell note value black black_exits limits a phase reached =
    let sound = run_sound trace limits (opening trace) (note.list ++ value.tail) (opening_sound trace limits) a.legal in
    record {
      there = a.there;
      number = a.number;
      legal = a.legal;
      tail = a.tail;
      shows = marked_shows trace (state_after trace (note.list ++ value.tail)) sound cell value a.shows black black_exits phase reached;
      counted = a.counted;
    }
