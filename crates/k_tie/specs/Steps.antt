-- The five kinds of step on the journal's word, each as what it does to a view.
--   make    the journal's seat has the empty list, every total is 0, and every cell is in hand with the empty list and share 0
--   append  one addition of the number of events; the seat's list grows by them
--   split   a cell that was in hand is so no longer, and the new seat is its note. The note has the list and the share in hand;
--           or the seat's whole list and the share in hand; or the list in hand and the share in hand plus a number, and then
--           the cell's total rises by that number. Where no cell is in hand, the new seat is spent
--   join    the journal's seat has a note's cell in hand, with its list and share, and the note's seat is spent
--   load    no view changes; it tells that each list in hand is a prefix of the seat's list, that its share is its cell's
--           total, and that the cells in hand are distinct
use Rattle.std.specs.Prelude.{◌≡◌, ℕ, ◌+◌, ◌≤◌, List, [], ◌∷◌, ◌++◌, map, replicate}
use Rattle.atomic_table.specs.Table.{Step, Me}
use Rattle.k_types.specs.Numbers.{numbers_below}
use Rattle.k_types.specs.declared.event.Event.{Event}
use Rattle.k_tie.specs.declared.view.CellView.{CellView}
use Rattle.k_tie.specs.declared.view.View.{View}
use Rattle.k_tie.specs.declared.view.View.TheVariants.{Journal, Note, Spent}
use Rattle.k_tie.specs.Rule.{CellsFit, times_among}

-- what is known of a cell, by its parts
abbrev pub cell_view : ℕ → List Event → ℕ → CellView
cell_view cell list share = record { cell = cell; list = list; share = share }

-- a cell that no event has touched, of an empty journal
abbrev pub blank_cell : ℕ → CellView
blank_cell cell = cell_view cell [] 0

-- make: the journal is empty, and every cell below the number is in hand
abbrev pub opening_view : ℕ → View
opening_view cells = Journal [] [] (map blank_cell (numbers_below cells))

-- append: the journal's list grows by the events
abbrev pub after_append : List Event → View → View
after_append events (Journal list touches in_hand) = Journal (list ++ events) touches in_hand
after_append events (Note known) = Note known
after_append events Spent = Spent

-- append as what a step tells: the seat's view is the one after it
abbrev pub Appends : {S : Type 0} → List Event → Step S → Me S View → ℕ → Me S View → Type 0
Appends events step before word after = after ≡ (after_append events before.0, before.1)

-- split: what is left to the journal's seat, where no total rises
abbrev pub after_give : View → View
after_give (Journal list touches (known ∷ others)) = Journal list touches others
after_give (Journal list touches []) = Journal list touches []
after_give (Note known) = Note known
after_give Spent = Spent

-- split, the first case: the note has the list and the share in hand
abbrev pub note_as_held : View → View
note_as_held (Journal list touches (known ∷ others)) = Note known
note_as_held (Journal list touches []) = Spent
note_as_held (Note known) = Spent
note_as_held Spent = Spent

-- split, the second case: the note has the whole list and the share in hand
abbrev pub note_of_whole : View → View
note_of_whole (Journal list touches (known ∷ others)) = Note (cell_view known.cell list known.share)
note_of_whole (Journal list touches []) = Spent
note_of_whole (Note known) = Spent
note_of_whole Spent = Spent

-- split: what is left to the journal's seat in the third case, where the cell's total rises by so many
abbrev pub after_touch : ℕ → View → View
after_touch times (Journal list touches (known ∷ others)) = Journal list (replicate times known.cell ++ touches) others
after_touch times (Journal list touches []) = Journal list touches []
after_touch times (Note known) = Note known
after_touch times Spent = Spent

-- split, the third case: the note has the list in hand and the share in hand plus so many
abbrev pub note_touched : ℕ → View → View
note_touched times (Journal list touches (known ∷ others)) = Note (cell_view known.cell known.list (known.share + times))
note_touched times (Journal list touches []) = Spent
note_touched times (Note known) = Spent
note_touched times Spent = Spent

-- join: the journal's view has the note's cell in hand, with its list and share
abbrev pub after_take : View → View → View
after_take (Journal list touches in_hand) (Note known) = Journal list touches (known ∷ in_hand)
after_take view other = view

-- load: what it tells, that each cell in hand fits the journal and stands once among them
abbrev pub IsToldOf : View → Type 0
IsToldOf (Journal list touches in_hand) = CellsFit list touches in_hand × ((cell : ℕ) → times_among cell in_hand ≤ 1)
IsToldOf (Note known) = Unit {0}
IsToldOf Spent = Unit {0}

-- load as what a step tells: the view stays
abbrev pub Reads : {S : Type 0} → Step S → Me S View → ℕ → Me S View → Type 0
Reads step before word after = (after ≡ before) × IsToldOf before.0
