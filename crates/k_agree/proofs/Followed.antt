-- Cells and book whose values are changed as an operation asks show the state to which it leads.
use Rattle.std.proofs.Common.{◌≡◌, ◌||◌, refl, sym, ap, ap₂, ◌∙◌, List, [], ◌∷◌, cond, not, false, IsTrue, inl, inr}
use Rattle.std.specs.List.{list_all}
use Rattle.std.proofs.lemmas.Bool.{and_from, or_cases, or_left, or_right, false≢true}
use Rattle.k_types.specs.declared.event.Event.{Event}
use Rattle.k_types.specs.declared.event.Event.TheVariants.{Done}
use Rattle.k_types.specs.declared.event.Reply.{Reply}
use Rattle.k_types.specs.declared.names.Heap.TheVariants.{User}
use Rattle.k_types.specs.declared.names.Pid.{Pid}
use Rattle.k_types.specs.declared.op.Op.{Op}
use Rattle.k_types.specs.Agree.{BookValue, CellValue, book_shown_by}
use Rattle.k_types.specs.Cells.{BookPart, Cell, CellPart, book_part, cells_touched, part}
use Rattle.k_types.specs.Effects.{step}
use Rattle.k_types.specs.Names.{heap_eq}
use Rattle.k_types.specs.Sound.{IsSound}
use Rattle.k_types.specs.State.{State, is_scanned}
use Rattle.k_types.specs.Steps.{IsPossible, no_orphan}
use Rattle.k_types.specs.Trace.{Trace}
use Rattle.k_types.specs.TraceRules.{AreLimits}
use Rattle.k_tie.proofs.NameTests.{heap_eq_refl, heap_eq-true}
use Rattle.k_agree.specs.Agreement.{BookShows}
use Rattle.k_agree.specs.Committing.{cell_among}
use Rattle.k_laws.specs.Answers.{reply_in}
use Rattle.k_laws.specs.BookAfter.{book_after}
use Rattle.k_laws.specs.CellAfter.{cell_after}
use Rattle.k_laws.specs.Follows.{AgreeWhereTouched, GiveTheSame}
use Rattle.k_laws.specs.Touches.{other_cells_in, touched_in}
use Rattle.k_laws.proofs.SquaresLaws.{only_touched_cells_are_read-parts, only_touched_cells_are_read-replies, replies_are_told, steps_show_in_the_parts-book, steps_show_in_the_parts-cells, touched_cells_are_told}
use Rattle.k_agree.specs.Moves.{HasMoved, HasMovedBoth, MayAct, MovesAlone, MovesBoth}
use Rattle.k_agree.specs.Shown.{idle_part, part_alone, two_parts}
use Rattle.k_agree.proofs.Idle.{book_follows, part_shown, shows_part, unscanned}

-- the parts that are read are those of the state wherever the event touches a cell
module _ (trace : Trace) (st : State) (limits : AreLimits trace) (sound : IsSound trace st) (pid : Pid) (op : Op) (said : Reply) (others : Cell → CellPart) (b : BookValue) (booked : BookShows trace st b) (may : MayAct trace st pid.0 op)
    (cells : List Cell) (touched : (User pid ∷ other_cells_in trace (book_shown_by b) (others (User pid)) pid.0 op) ≡ cells)
    (same : (c : Cell) → IsTrue (cell_among c cells) → others c ≡ part trace st c) (own : IsTrue (cell_among (User pid) cells))
    (idle : IsTrue (list_all (λ c. not (is_scanned st.scans c)) cells))
    (answered : said ≡ reply_in trace (book_shown_by b) others pid.0 op) where
  abbrev event : Event
  event = Done pid op said

  told_in : touched_in trace (book_part trace st) (part trace st) event ≡ cells
  told_in = ap₂ (λ (k : BookPart) (c : CellPart). User pid ∷ other_cells_in trace k c pid.0 op) (sym booked.part) (sym (same (User pid) own)) ∙ touched

  pub told : cells_touched trace st event ≡ cells
  told = touched_cells_are_told trace st event ∙ told_in

  agree : AgreeWhereTouched trace (book_part trace st) (part trace st) others event
  agree c t = sym (same c (ap (cell_among c) (sym told_in) ∙ t))

  told_reply : reply_in trace (book_part trace st) (part trace st) pid.0 op ≡ said
  told_reply =
      only_touched_cells_are_read-replies trace (book_part trace st) (part trace st) others pid op said agree
      ∙ ap (λ (k : BookPart). reply_in trace k others pid.0 op) (sym booked.part)
      ∙ sym answered

  pub possible : IsPossible trace st event
  possible = record {
    known = may.known;
    lives = may.lives;
    in_range = may.in_range;
    idle = ap (list_all (λ c. not (is_scanned st.scans c))) told ∙ idle;
    orphans = ap (λ w. not w || no_orphan trace st) may.waits;
    replied = sym (replies_are_told trace st pid.0 op limits may.known may.lives may.in_range ∙ told_reply);
  }

  given : GiveTheSame trace (book_part trace st) (part trace st) others event
  given = only_touched_cells_are_read-parts trace (book_part trace st) (part trace st) others event agree

  pub cell_follows : (c : Cell) → IsTrue (cell_among c cells) → cell_after trace (book_shown_by b) others event c ≡ part trace (step trace st event) c
  cell_follows c t =
      ap (λ (k : BookPart). cell_after trace k others event c) booked.part
      ∙ sym (given.for_cells c (ap (cell_among c) told_in ∙ t))
      ∙ sym (steps_show_in_the_parts-cells trace st event sound possible c)

  pub book_goes : book_after trace (book_shown_by b) others event ≡ book_part trace (step trace st event)
  book_goes =
      ap (λ (k : BookPart). book_after trace k others event) booked.part
      ∙ sym (given.for_book (sym told_reply))
      ∙ sym (steps_show_in_the_parts-book trace st event limits sound possible)

module _ (trace : Trace) (st : State) (limits : AreLimits trace) (sound : IsSound trace st) (pid : Pid) (op : Op) (said : Reply) (v w : CellValue) (b k : BookValue) (m : MovesAlone trace st pid op said v w b k) where
  alone_here : (c : Cell) → IsTrue (cell_among c (User pid ∷ [])) → part_alone (idle_part v) c ≡ part trace st c
  alone_here c t =
      elim (or_cases (heap_eq (User pid) c) false t) [
        | inl is ↦ part_shown trace st (User pid) v m.cell ∙ ap (part trace st) (heap_eq-true (User pid) c is)
        | inr bad ↦ absurd (false≢true bad)
      ]

  own_alone : IsTrue (cell_among (User pid) (User pid ∷ []))
  own_alone = or_left _ _ (heap_eq_refl (User pid))

  abbrev idle_alone : IsTrue (list_all (λ c. not (is_scanned st.scans c)) (User pid ∷ []))
  idle_alone = and_from _ _ (unscanned trace st (User pid) v m.cell) refl

  touched_alone : (User pid ∷ other_cells_in trace (book_shown_by b) (idle_part v) pid.0 op) ≡ (User pid ∷ [])
  touched_alone = ap (λ (cells : List Cell). User pid ∷ cells) m.gives.touched

  pub told_alone : cells_touched trace st (Done pid op said) ≡ (User pid ∷ [])
  told_alone = told trace st limits sound pid op said (part_alone (idle_part v)) b m.book m.may (User pid ∷ []) touched_alone alone_here own_alone idle_alone m.gives.answered

  pub moved_alone : HasMoved trace st pid op said w k
  moved_alone = record {
    possible = possible trace st limits sound pid op said (part_alone (idle_part v)) b m.book m.may (User pid ∷ []) touched_alone alone_here own_alone idle_alone m.gives.answered;
    cell = shows_part trace (step trace st (Done pid op said)) (User pid) w m.idle
        (m.gives.own ∙ cell_follows trace st limits sound pid op said (part_alone (idle_part v)) b m.book m.may (User pid ∷ []) touched_alone alone_here own_alone idle_alone m.gives.answered (User pid) own_alone);
    book = book_follows trace st (step trace st (Done pid op said)) b k m.book m.owners
        (m.gives.book ∙ book_goes trace st limits sound pid op said (part_alone (idle_part v)) b m.book m.may (User pid ∷ []) touched_alone alone_here own_alone idle_alone m.gives.answered);
  }

module _ (trace : Trace) (st : State) (limits : AreLimits trace) (sound : IsSound trace st) (pid : Pid) (op : Op) (said : Reply) (cell : Cell) (v w u x : CellValue) (b k : BookValue) (m : MovesBoth trace st pid op said cell v w u x b k) where
  abbrev both : Cell → CellPart
  both = two_parts (User pid) (idle_part v) (idle_part u)

  abbrev pair : List Cell
  pair = User pid ∷ cell ∷ []

  own_is : both (User pid) ≡ idle_part v
  own_is = ap (λ t. cond t (idle_part v) (idle_part u)) (heap_eq_refl (User pid))

  other_is : both cell ≡ idle_part u
  other_is = ap (λ t. cond t (idle_part v) (idle_part u)) m.gives.apart

  both_here : (c : Cell) → IsTrue (cell_among c pair) → both c ≡ part trace st c
  both_here c t =
      elim (or_cases (heap_eq (User pid) c) (heap_eq cell c || false) t) [
        | inl is ↦ let same = heap_eq-true (User pid) c is in ap both (sym same) ∙ own_is ∙ part_shown trace st (User pid) v m.own ∙ ap (part trace st) same
        | inr rest ↦ elim (or_cases (heap_eq cell c) false rest) [
          | inl is ↦ let same = heap_eq-true cell c is in ap both (sym same) ∙ other_is ∙ part_shown trace st cell u m.other ∙ ap (part trace st) same
          | inr bad ↦ absurd (false≢true bad)
        ]
      ]

  own_in_pair : IsTrue (cell_among (User pid) pair)
  own_in_pair = or_left _ _ (heap_eq_refl (User pid))

  other_in_pair : IsTrue (cell_among cell pair)
  other_in_pair = or_right (heap_eq (User pid) cell) _ (or_left _ _ (heap_eq_refl cell))

  idle_pair : IsTrue (list_all (λ c. not (is_scanned st.scans c)) pair)
  idle_pair = and_from _ _ (unscanned trace st (User pid) v m.own) (and_from _ _ (unscanned trace st cell u m.other) refl)

  touched_pair : (User pid ∷ other_cells_in trace (book_shown_by b) (both (User pid)) pid.0 op) ≡ pair
  touched_pair =
      ap (λ (c : CellPart). User pid ∷ other_cells_in trace (book_shown_by b) c pid.0 op) own_is
      ∙ ap (λ (cells : List Cell). User pid ∷ cells) m.gives.touched

  pub told_both : cells_touched trace st (Done pid op said) ≡ pair
  told_both = told trace st limits sound pid op said both b m.book m.may pair touched_pair both_here own_in_pair idle_pair m.gives.answered

  pub moved_both : HasMovedBoth trace st pid op said cell w x k
  moved_both = record {
    possible = possible trace st limits sound pid op said both b m.book m.may pair touched_pair both_here own_in_pair idle_pair m.gives.answered;
    own = shows_part trace (step trace st (Done pid op said)) (User pid) w m.idle
        (m.gives.own ∙ cell_follows trace st limits sound pid op said both b m.book m.may pair touched_pair both_here own_in_pair idle_pair m.gives.answered (User pid) own_in_pair);
    other = shows_part trace (step trace st (Done pid op said)) cell x m.other_idle
        (m.gives.second ∙ cell_follows trace st limits sound pid op said both b m.book m.may pair touched_pair both_here own_in_pair idle_pair m.gives.answered cell other_in_pair);
    book = book_follows trace st (step trace st (Done pid op said)) b k m.book m.owners
        (m.gives.book ∙ book_goes trace st limits sound pid op said both b m.book m.may pair touched_pair both_here own_in_pair idle_pair m.gives.answered);
  }
