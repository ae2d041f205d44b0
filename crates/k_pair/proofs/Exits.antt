-- What the other cell and the book remember of a stored reference, by cases.
use Rattle.std.proofs.Common.{◌≡◌, ℕ, refl, sym, ap, ◌∙◌, Some, None, IsTrue, IsFalse}
use Rattle.k_types.specs.declared.names.Heap.{Heap}
use Rattle.k_types.specs.declared.names.Name.{Name}
use Rattle.k_types.specs.Agree.{book_shown_by}
use Rattle.k_types.specs.Names.{heap_eq, name_among}
use Rattle.k_commit.specs.k_book.Books.{BookRecord, book_entries}
use Rattle.k_commit.specs.k_book.Calls.{ChangesEntries}
use Rattle.k_commit.proofs.OnPart.{entered_on}
use Rattle.k_commit.specs.k_cell.Changes.{with_exit_item}
use Rattle.k_entry.specs.Entries.{HasMore}
use Rattle.k_laws.specs.CellAfter.{with_exit_for}
use Rattle.k_commit.specs.k_agree.Shown.{idle_part}
use Rattle.k_commit.proofs.Changed.{exit_shown}
use Rattle.k_commit.proofs.Stored.{an_exit, entered, entered_already, inside, no_exit}
use Rattle.k_commit.specs.Others.{OtherValue, with_value}
use Rattle.k_pair.specs.Remembered.{HasRemembered}

module _ (own : ℕ → Heap) (o : OtherValue) (b : BookRecord) where
  pub null_remembered : HasRemembered own o o b b None
  null_remembered = record { other_is = refl; book_is = refl; exits = λ x at. refl; entries = λ x at. refl }

  module _ (y : Name) where
    both_by : (x : Name) → own x.seg.0 ≡ o.cell → heap_eq (own x.seg.0) (own y.seg.0) ≡ heap_eq o.cell (own y.seg.0)
    both_by x at = ap (λ (h : Heap). heap_eq h (own y.seg.0)) at

    -- an object of the heap itself
    pub own_remembered : IsTrue (heap_eq o.cell (own y.seg.0)) → HasRemembered own o o b b (Some y)
    own_remembered here = record {
      other_is = refl;
      book_is = refl;
      exits = λ x at. sym (no_exit own x y (idle_part o.held.value) (both_by x at ∙ here));
      entries = λ x at. sym (inside own x y (idle_part o.held.value) (book_shown_by b.value) (both_by x at ∙ here));
    }

    module _ (elsewhere : IsFalse (heap_eq o.cell (own y.seg.0))) where
      exits_are : (x : Name) → own x.seg.0 ≡ o.cell → idle_part (with_exit_item y o.held.value) ≡ with_exit_for own x (Some y) (idle_part o.held.value)
      exits_are x at = exit_shown o.held.value y ∙ sym (an_exit own x y (idle_part o.held.value) (both_by x at ∙ elsewhere))

      -- an object to which there was an exit item
      pub again_remembered : IsTrue (name_among y o.held.value.exits) → HasRemembered own o (with_value (with_exit_item y o.held.value) o) b b (Some y)
      again_remembered there = record {
        other_is = refl;
        book_is = refl;
        exits = exits_are;
        entries = λ x at. sym (entered_already own x y (idle_part o.held.value) (book_shown_by b.value) (both_by x at ∙ elsewhere) there);
      }

      -- one to which there was none
      pub newly_remembered : (e : BookRecord) → IsFalse (name_among y o.held.value.exits) → HasMore (book_entries b) (book_entries e) y → ChangesEntries b e →
          HasRemembered own o (with_value (with_exit_item y o.held.value) o) b e (Some y)
      newly_remembered e new more rest = record {
        other_is = refl;
        book_is = rest;
        exits = exits_are;
        entries = λ x at. entered_on b e y more rest ∙ sym (entered own x y (idle_part o.held.value) (book_shown_by b.value) (both_by x at ∙ elsewhere) new);
      }
