-- What the tables of cells and the book show of the exit items that the machine has.
use Rattle.std.proofs.Common.{◌≡◌, ℕ, ◌+◌, ◌*◌, ◌<◌, ◌≤◌, ◌++◌, ◌∷◌, cond, ap, ◌∙◌, [], length, arith, IsFalse}
use Rattle.k_types.specs.declared.names.Heap.TheVariants.{Kernel, User}
use Rattle.k_types.specs.declared.names.Pid.{Pid}
use Rattle.k_types.specs.Agree.{BookValue, CellValue}
use Rattle.k_types.specs.Cells.{BookPart, Cell, book_part}
use Rattle.k_types.specs.Names.{among}
use Rattle.k_types.specs.Numbers.{numbers_below}
use Rattle.k_types.specs.Owners.{user}
use Rattle.k_types.specs.State.{State}
use Rattle.k_types.specs.Steps.{state_after}
use Rattle.k_types.specs.Trace.{Trace, process_count}
use Rattle.k_types.specs.TraceRules.{AreLimits}
use Rattle.k_types.specs.Distinct.{AreDistinctNames}
use Rattle.k_types.proofs.Sums.{sum_same}
use Rattle.k_laws.specs.Counts.{exit_count}
use Rattle.k_tie.specs.Values.{JournalValue, NoteValue}
use Rattle.k_agree.specs.Agreement.{Agrees, BookAgrees}
use Rattle.k_agree.specs.Meeting.{Fits}
use Rattle.k_agree.proofs.AtTheEnd.{book_sound}
use Rattle.k_agree.proofs.Meetings.{meeting}
use Rattle.k_process.proofs.CanDo.{exits_many}
use Rattle.k_shares.specs.Sharers.{living_of}
use Rattle.k_guests.specs.Reserve.{kept_for}
use Rattle.k_guests.proofs.Reserve.{one_fewer}

at_least_once : (each n less : ℕ) → n ≡ less + 1 → each ≤ each * n
at_least_once each n less one =
    let spread : each * n ≡ each * less + each = ap (λ k. each * k) one ∙ omega arith in
    omega (arith, spread)

module _ (trace : Trace) (journal : JournalValue) (book : BookValue) (limits : AreLimits trace) (agrees : BookAgrees trace journal book) where
  abbrev now : State
  now = state_after trace journal.list

  -- as many processes live as the book says
  pub living_shown : living_of book.ended (process_count trace) ≡ living_of now.ended (process_count trace)
  unfolding book_part
  living_shown =
      sum_same (λ p. cond (among p book.ended) 0 1) (λ p. cond (among p now.ended) 0 1)
      (λ p. ap (λ (k : BookPart). cond (k.ended p) 0 1) agrees.shows.part) (numbers_below (process_count trace))

  -- a cell that fits the journal and has nothing unpublished has the exit items of its heap
  pub exits_shown : (cell : Cell) (note : NoteValue) (value : CellValue) → Agrees trace cell note value → value.tail ≡ [] → Fits journal note → AreDistinctNames value.exits →
      length value.exits ≡ exit_count now.exits cell
  exits_shown cell note value cell_agrees settled fits distinct =
      exits_many trace now cell value (book_sound trace journal book limits agrees) ((meeting trace journal book cell note value cell_agrees agrees fits).shows settled) distinct

  -- the kernel's cell has room for one exit item more beside what is kept back
  pub kernel_shown : (each all : ℕ) (note : NoteValue) (value : CellValue) → Agrees trace Kernel note value → Fits journal note → AreDistinctNames value.exits →
      length value.exits + each * living_of book.ended (process_count trace) < all → kept_for trace each now < all
  kernel_shown each all note value cell_agrees fits distinct left =
      let many = exits_shown Kernel note value cell_agrees cell_agrees.tail fits distinct in
      let living : each * living_of book.ended (process_count trace) ≡ each * living_of now.ended (process_count trace) = ap (λ n. each * n) living_shown in
      omega (arith, many, living, left)

  -- the exit items of a process are no more than are kept back for it
  pub own_shown : (each : ℕ) (pid : Pid) (note : NoteValue) (value : CellValue) → Agrees trace (User pid) note value → value.tail ≡ [] → Fits journal note → AreDistinctNames value.exits →
      length value.exits ≤ each → exit_count now.exits (user pid.0) ≤ each
  own_shown each pid note value cell_agrees settled fits distinct few =
      let many = exits_shown (User pid) note value cell_agrees settled fits distinct in
      omega (arith, many, few)

  -- and where that many are kept back for each process that lives, those of one that lives fit beside the kernel's
  pub fit_beside : (each all : ℕ) (pid : Pid) (value kernel : CellValue) → pid.0 < process_count trace → IsFalse (among pid.0 now.ended) → length value.exits ≤ each → length kernel.exits ≡ exit_count now.exits Kernel →
      kept_for trace each now ≤ all → length value.exits + length kernel.exits ≤ all
  fit_beside each all pid value kernel known lives few others kept =
      let some = at_least_once each (living_of now.ended (process_count trace)) (living_of (now.ended ++ pid.0 ∷ []) (process_count trace)) (one_fewer now.ended pid.0 (process_count trace) lives known) in
      omega (arith, others, few, some, kept)
