-- The rule of the journal's table. Its word is the journal's length, and each seat has a view of the journal. A cell is in
-- hand while the journal's own view has the cell's list and share and no note of that cell exists: so it is when the table
-- is made, and from the join of a note to the next split that gives one.
use Rattle.std.specs.Prelude.{◌≡◌, ℕ, ◌≤◌, List, [], ◌∷◌, length}
use mathlib.Core.Option.{some}
use lib.ListN.{get_elem?}
use Rattle.atomic_table.specs.Table.{State}
use Rattle.k_types.specs.Totals.{total}
use Rattle.k_types.specs.Complete.{IsPrefixOf}
use Rattle.k_types.specs.declared.event.Event.{Event}
use Rattle.k_tie.specs.declared.view.CellView.{CellView}
use Rattle.k_tie.specs.declared.view.View.{View}
use Rattle.k_tie.specs.declared.view.View.TheVariants.{Journal, Note, Spent}
use Rattle.k_types.specs.Counts.{one_if_same}

-- a cell's total: how many of the touches are of the cell
abbrev pub total_of : List ℕ → ℕ → ℕ
total_of touches cell = total (λ touched. one_if_same touched cell) touches

-- the cell's list is a prefix of the journal, and its share is its total
abbrev pub CellFits : List Event → List ℕ → CellView → Type 0
CellFits list touches known = IsPrefixOf known.list list × (known.share ≡ total_of touches known.cell)

-- so it is of each of the cells
abbrev pub CellsFit : List Event → List ℕ → List CellView → Type 0
CellsFit list touches [] = Unit {0}
CellsFit list touches (known ∷ others) = CellFits list touches known × CellsFit list touches others

-- what the view says of the journal and of cells is so
abbrev pub ViewFits : List Event → List ℕ → View → Type 0
ViewFits list touches (Journal own_list own_touches in_hand) = (own_list ≡ list) × (own_touches ≡ touches) × CellsFit list touches in_hand
ViewFits list touches (Note known) = CellFits list touches known
ViewFits list touches Spent = Unit {0}

-- how often the cell is among these
abbrev pub times_among : ℕ → List CellView → ℕ
times_among cell cells = total (λ known. one_if_same known.cell cell) cells

-- how often the view has the cell, in hand or as its note's
abbrev pub times_in : ℕ → View → ℕ
times_in cell (Journal list touches in_hand) = times_among cell in_hand
times_in cell (Note known) = one_if_same known.cell cell
times_in cell Spent = 0

-- 1 for the journal's view
abbrev pub one_if_journal : View → ℕ
one_if_journal (Journal list touches in_hand) = 1
one_if_journal (Note known) = 0
one_if_journal Spent = 0

-- the rule: exactly one view is the journal's, and the word is the length of its list; each note and each cell in hand has
-- a prefix of that list and its cell's total; and no cell stands twice among notes and cells in hand
pub record KeepsRule (words : List ℕ) (views : List View) : Type 0 where
  pub list : List Event
  pub touches : List ℕ
  pub word : words ≡ length list ∷ []
  pub one_journal : total one_if_journal views ≡ 1
  pub fits : (seat : ℕ) (view : View) → get_elem? views seat ≡ some view → ViewFits list touches view
  pub distinct : (cell : ℕ) → total (times_in cell) views ≤ 1

-- the rule as a fact about the table
abbrev pub Holds : State (Unit {0}) View → Type 0
Holds state = KeepsRule state.words state.views
