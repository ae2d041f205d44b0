-- What an event leaves of the cells that it touches and of the book is the same in two states where these have the same parts.
use Rattle.std.proofs.Common.{◌≡◌, sym, ap, ◌∙◌}
use Rattle.std.specs.List.{list_any}
use Rattle.k_types.specs.declared.event.Event.{Event}
use Rattle.k_types.specs.declared.event.Event.TheVariants.{Done, Ended, Absorbed, Closing}
use Rattle.k_types.specs.Names.{heap_eq}
use Rattle.k_types.specs.Trace.{Trace}
use Rattle.k_types.specs.TraceRules.{AreLimits}
use Rattle.k_types.specs.State.{State}
use Rattle.k_types.specs.Cells.{Cell, CellPart, part, book_part, touches}
use Rattle.k_types.specs.Steps.{IsPossible}
use Rattle.k_laws.proofs.SameEnds.{event_possible}
use Rattle.k_laws.specs.CellAfter.{cell_after}
use Rattle.k_laws.specs.BookAfter.{book_after}
use Rattle.k_laws.specs.Answers.{IsAnswered}
use Rattle.k_laws.specs.Touches.{touched_in}
use Rattle.k_laws.specs.Follows.{AgreeWhereTouched, FindsTheSame, LeavesSameCells, LeavesSameBook}
use Rattle.k_laws.proofs.EventSquares.{step_cells, step_book}
use Rattle.k_laws.proofs.OnlyTouched.{given_the_same}
use Rattle.k_laws.proofs.Told.{touched_told, reply_told}

-- a possible event is answered what the parts give
answered : (trace : Trace) (st : State) (event : Event) → AreLimits trace → IsPossible trace st event → IsAnswered trace (book_part trace st) (part trace st) event
answered trace st (Done pid op said) limits may = may.replied ∙ reply_told trace st limits pid.0 may.known op may.lives may.in_range
answered trace st (Ended h a b c d) limits may = tt
answered trace st (Absorbed s) limits may = tt
answered trace st Closing limits may = tt

module _ (trace : Trace) (st su : State) (limits : AreLimits trace) (event : Event) (finds : FindsTheSame trace st su event) where
  possible_too : IsPossible trace su event
  possible_too = event_possible trace st su finds.sound finds.sound_too limits event finds.same finds.possible

  touched : (c : Cell) → touches trace st event c ≡ list_any (λ k. heap_eq k c) (touched_in trace (book_part trace st) (part trace st) event)
  touched c = ap (list_any (λ k. heap_eq k c)) (touched_told trace st event)

  agree : AgreeWhereTouched trace (book_part trace st) (part trace st) (part trace su) event
  agree c t = finds.same.cells c (touched c ∙ t)

  pub same_cells : LeavesSameCells trace st su event
  same_cells c t =
      ap (λ (f : Cell → CellPart). f c) (step_cells trace st event finds.sound finds.possible)
      ∙ (given_the_same trace (book_part trace st) (part trace st) (part trace su) event agree).for_cells c (sym (touched c) ∙ t)
      ∙ ap (λ b. cell_after trace b (part trace su) event c) finds.same.book
      ∙ ap (λ (f : Cell → CellPart). f c) (sym (step_cells trace su event finds.sound_too possible_too))

  pub same_book : LeavesSameBook trace st su event
  same_book =
      step_book trace st event limits finds.sound finds.possible
      ∙ (given_the_same trace (book_part trace st) (part trace st) (part trace su) event agree).for_book (answered trace st event limits finds.possible)
      ∙ ap (λ b. book_after trace b (part trace su) event) finds.same.book
      ∙ sym (step_book trace su event limits finds.sound_too possible_too)
