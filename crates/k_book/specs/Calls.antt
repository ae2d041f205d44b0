-- What changing calls of the book change, where the order of a list is left open: that field alone.
use Rattle.std.specs.Prelude.{◌≡◌, ℕ, ◌==◌, ◌||◌}
use Rattle.k_types.specs.Cells.{BookPart}
use Rattle.k_book.specs.Books.{BookRecord}

-- nothing but the entry items
abbrev pub ChangesEntries : BookRecord → BookRecord → Type 0
ChangesEntries old new = new ≡ record old { value = record old.value { entries = new.value.entries } }

-- nothing but the pins
abbrev pub ChangesPins : BookRecord → BookRecord → Type 0
ChangesPins old new = new ≡ record old { value = record old.value { pins = new.value.pins } }

-- nothing but the shares
abbrev pub ChangesShares : BookRecord → BookRecord → Type 0
ChangesShares old new = new ≡ record old { value = record old.value { shares = new.value.shares } }

-- nothing but who has ended
abbrev pub ChangesEnded : BookRecord → BookRecord → Type 0
ChangesEnded old new = new ≡ record old { value = record old.value { ended = new.value.ended } }

-- the process has ended in the book's part
abbrev pub with_ended : ℕ → BookPart → BookPart
with_ended p b = record b { ended = λ q. b.ended q || (p == q) }
