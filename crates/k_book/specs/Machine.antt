-- How a book stands to the one-thread machine.
use Rattle.std.specs.Prelude.{◌≡◌, ℕ, ◌<◌, length, find, slice_index}
use Rattle.k_types.specs.declared.names.Name.{Name}
use Rattle.k_types.specs.Cells.{entries, pins}
use Rattle.k_types.specs.Counted.{counted}
use Rattle.k_types.specs.Limits.{ancestors_of, full_for, full_limit, is_ancestor, limits_in, max_of, use_of}
use Rattle.k_types.specs.Names.{among}
use Rattle.k_types.specs.Numbers.{numbers_below}
use Rattle.k_types.specs.Owners.{bytes_of, owner_of, phase_of, shared}
use Rattle.k_types.specs.State.{State, has_share}
use Rattle.k_types.specs.Steps.{is_orphan}
use Rattle.k_types.specs.Trace.{Trace, segment_count}
use Rattle.k_entry.specs.Entries.{home_of}
use Rattle.k_limits.specs.Limits.{full_at, use_at}
use Rattle.k_shares.specs.Sharers.{lowest_orphan}
use Rattle.k_book.specs.Books.{BookRecord, book_limits, without_maxima}
use Rattle.k_limits.specs.Resizes.{full_for_at}

-- the book is of that trace: its limits but for the maxima, its processes and its ceiling are the trace's, and each limit has a maximum
pub record IsBookOf (trace : Trace) (b : BookRecord) : Type 0 where
  pub rows : b.rows ≡ without_maxima trace.limits
  pub procs : b.procs ≡ trace.procs
  pub ceiling : b.ceiling ≡ trace.ceiling
  pub maxima : length b.value.maxima ≡ length trace.limits

-- what the book answers is what the machine has in the state
pub record TellsTheMachine (trace : Trace) (st : State) (b : BookRecord) : Type 0 where
  pub owner : (seg : ℕ) → seg < segment_count trace → home_of b.value.homes seg ≡ owner_of trace st seg
  pub ended : (p : ℕ) → among p b.value.ended ≡ among p st.ended
  pub closed : b.value.closed ≡ st.closed
  pub shares : (p s : ℕ) → has_share b.value.shares p s ≡ has_share st.shares p s
  pub phase : (s : ℕ) → phase_of b.value.phases s ≡ phase_of st.phases s
  pub bytes : (s : ℕ) → s < trace.shared_heaps → slice_index b.value.shared_bytes s ≡ bytes_of trace st (shared s)
  pub entries : (n : Name) → counted b.value.entries n ≡ entries st n
  pub pins : (n : Name) → counted b.value.pins n ≡ pins trace st n
  pub orphan : length st.phases ≡ trace.shared_heaps →
      lowest_orphan b.value.phases b.value.shares ≡ find (is_orphan st) (numbers_below trace.shared_heaps)

-- the limits of the book are those of the machine in the state
pub record TellsTheLimits (trace : Trace) (st : State) (b : BookRecord) : Type 0 where
  pub max : (m : ℕ) → max_of (book_limits b).rows m ≡ max_of (limits_in trace st) m
  pub uses : (m : ℕ) → m < length trace.limits → use_at (book_limits b) m ≡ use_of trace st m
  pub full : (m n : ℕ) → m < length trace.limits → full_at (book_limits b) m n ≡ full_limit trace st m n
  pub below : (upper lower : ℕ) → among upper (ancestors_of b.rows lower) ≡ is_ancestor trace.limits upper lower
  pub full_for : (m max : ℕ) → m < length trace.limits → full_for_at (book_limits b) m max ≡ full_for trace st m max
