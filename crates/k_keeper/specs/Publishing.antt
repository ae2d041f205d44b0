-- What is left once each process has published what it did inside its heap.
use Rattle.std.specs.Prelude.{◌≡◌, ℕ, ◌<◌, ◌≤◌, List, [], ◌++◌, Some, length, slice_get, take}
use Rattle.std.specs.List.{flat_map}
use Rattle.k_types.specs.declared.event.Event.{Event}
use Rattle.k_host.specs.k_guests.declared.guest.Guest.{Guest}
use Rattle.k_host.specs.Hosts.{HostValue}

-- what the process did inside its heap and has not published
abbrev pub tail_of : Guest → List Event
tail_of g = g.cell.value.tail

-- the process has nothing unpublished, and nothing else of it has changed but what its note knows
pub record IsPublished (old g : Guest) : Type 0 where
  pub guest_is : g ≡ record old { cell = record old.cell { note = g.cell.note; value = record old.cell.value { tail = [] } } }

-- the process of that number was one before, and is published
pub record IsPublishedAt (old : HostValue) (p : ℕ) (g : Guest) : Type 0 where
  pub before : Guest
  pub there : slice_get old.guests p ≡ Some before
  pub published : IsPublished before g

-- of the first so many processes all that was unpublished is in the journal, in the order of their numbers, and the others are as they were
pub record HavePublished (old new : HostValue) (n : ℕ) : Type 0 where
  pub journal : new.book.journal.list ≡ old.book.journal.list ++ flat_map tail_of (take n old.guests)
  pub published : (k : ℕ) (g : Guest) → k < n → slice_get new.guests k ≡ Some g → IsPublishedAt old k g
  pub left : (k : ℕ) → n ≤ k → slice_get new.guests k ≡ slice_get old.guests k
  pub count : length new.guests ≡ length old.guests
  pub book_is : new.book ≡ record old.book { journal = new.book.journal }
  pub host_is : new ≡ record old { guests = new.guests; book = new.book }

-- that is so of all processes
abbrev pub HasPublishedEach : HostValue → HostValue → Type 0
HasPublishedEach old new = HavePublished old new (length old.guests)
