-- What the cells and the book of a run that is over tell of the state after the journal.
use Rattle.std.proofs.Common.{◌≡◌, ℕ, ◌^◌, ◌<◌, ◌≤◌, cond, is_some, refl, sym, ap, ◌∙◌, List, get_or, length, Option, Some, None, slice_get, arith, replicate}
use Rattle.std.specs.Prelude.{IfSome, IsTrue, option_and_then}
use Rattle.std.proofs.lemmas.List.{length-map}
use Rattle.k_types.specs.declared.event.Event.{Event}
use Rattle.k_types.specs.declared.names.Heap.{Heap}
use Rattle.k_types.specs.declared.names.Heap.TheVariants.{User}
use Rattle.k_types.specs.declared.names.Name.{Name}
use Rattle.k_types.specs.declared.names.Phase.{Phase}
use Rattle.k_types.specs.declared.names.Phase.TheVariants.{Absorbed, Frozen, Populating, Unmade}
use Rattle.k_types.specs.declared.names.Pid.{Pid}
use Rattle.k_types.specs.declared.setup.LimitRow.{LimitRow}
use Rattle.k_types.specs.Cells.{BookPart, ShownPart, book_part, part}
use Rattle.k_types.specs.Known.{IsKnownEvent, IsKnownPhase}
use Rattle.k_types.specs.Names.{heap_eq}
use Rattle.k_types.specs.Numbers.{numbers_below}
use Rattle.k_types.specs.Owners.{bytes_by, bytes_of, object_bytes, objects_of, owner_of, phase_of}
use Rattle.k_types.specs.Replies.{field_at, field_count}
use Rattle.k_types.specs.Sound.{IsSound}
use Rattle.k_types.specs.State.{Holds, Object, State, fields_of, has, object_at, register}
use Rattle.k_types.specs.Totals.{total}
use Rattle.k_types.specs.Trace.{IsHeap, process_count, segment_count}
use Rattle.k_types.proofs.Lists.{numbers_length}
use Rattle.k_types.proofs.Maxima.{length_in}
use Rattle.k_types.proofs.NameTests.{heap_eq_refl}
use Rattle.k_types.proofs.Objects.{is_some-object_at, object_at-kept}
use Rattle.k_laws.specs.PartUpdates.{held_in}
use Rattle.k_laws.proofs.SoundSteps.{legal_sound}
use Rattle.k_laws.specs.Counts.{has_stored}
use Rattle.k_laws.proofs.AllExits.{exits_at_most_stores}
use Rattle.k_laws.proofs.Counting.{count_low}
use Rattle.k_laws.proofs.KnownLaws.{events_are_known, objects_fit_their_types}
use Rattle.k_book.specs.Books.{BookRecord}
use Rattle.k_book.specs.Machine.{TellsTheLimits, TellsTheMachine}
use Rattle.k_book.proofs.Telling.{tells, tells_limits}
use Rattle.k_cell.specs.Looks.{field_among, field_count_among, type_among, type_of_some}
use Rattle.k_text.specs.Shown.{exits_of, in_order, type_at}
use Rattle.k_text.proofs.InOrder.{in_order_among, in_order_rises, rising_exits}
use Rattle.k_text.proofs.Arranged.{exits_length}
use Rattle.k_process.specs.Over.{OutcomeValue}
use Rattle.k_outcome.specs.Cells.{IsThere, cell_at}
use Rattle.k_outcome.specs.Ends.{EndValue, IsEnd, journal_of, last_state}
use Rattle.k_laws.proofs.SetupShapes.{all_got}
use Rattle.k_types.proofs.Owners.{owner_known}

type_told : (o : Option Object) → type_of_some o ≡ option_and_then (λ (x : Object). x.ty) o
type_told None = refl
type_told (Some o) = refl

-- the book of the cells
pub book_shown : (cells seen : OutcomeValue) (b : BookRecord) → seen ≡ cells → b ≡ seen.book → b ≡ cells.book
book_shown cells seen b same is = is ∙ ap (λ (o : OutcomeValue). o.book) same

module _ (e : EndValue) (end : IsEnd e) where
  abbrev st : State
  st = last_state e

  abbrev own : ℕ → Heap
  own = owner_of e.setup st

  pub sound : IsSound e.setup st
  sound = legal_sound e.setup (journal_of e) end.rules.limits end.legal

  pub book_tells : TellsTheMachine e.setup st e.cells.book
  book_tells = tells e.setup st e.cells.book end.book

  pub limits_told : TellsTheLimits e.setup st e.cells.book
  limits_told = tells_limits e.setup st e.cells.book end.book end.rules.limits.tree end.of_setup

  pub event_known : (i : ℕ) (event : Event) → slice_get (journal_of e) i ≡ Some event → IsKnownEvent e.setup event
  event_known i event at = all_got (IsKnownEvent e.setup) (journal_of e) i event (events_are_known e.setup (journal_of e) end.rules.limits end.legal) at

  pub homes_long : length e.cells.book.value.homes ≡ segment_count e.setup
  homes_long = ap (λ (hs : List Heap). length hs) end.book.homes ∙ length-map (numbers_below (segment_count e.setup)) own ∙ numbers_length 0 (segment_count e.setup)

  pub phases_long : length e.cells.book.value.phases ≡ e.setup.shared_heaps
  unfolding book_part
  phases_long = ap (λ (b : BookPart). length b.phases) end.book.part ∙ sound.shape.sized.phases

  pub limits_long : length e.cells.book.rows ≡ length e.setup.limits
  limits_long = ap (λ (rows : List LimitRow). length rows) end.of_setup.rows ∙ length_in e.setup.limits (replicate (length e.setup.limits) 0)

  pub owner_there : (seg : ℕ) → seg < segment_count e.setup → IsThere e.cells (own seg)
  owner_there seg known = end.there (own seg) (owner_known e.setup st seg known)

  -- the objects of a heap are those of its cell
  pub objects_shown : (h : Heap) → IsHeap e.setup h → (cell_at e.cells h).objects ≡ objects_of own h st.objects
  unfolding part
  objects_shown h known = ap (λ (s : ShownPart). s.objects) (end.shows h known).part

  pub found_there : (n : Name) → n.seg.0 < segment_count e.setup → object_at (cell_at e.cells (own n.seg.0)).objects n ≡ object_at st.objects n
  found_there n known =
      ap (λ (os : List Object). object_at os n) (objects_shown (own n.seg.0) (owner_known e.setup st n.seg.0 known))
      ∙ object_at-kept (λ m. heap_eq (own m.seg.0) (own n.seg.0)) st.objects n
      ∙ ap (λ b. cond b (object_at st.objects n) None) (heap_eq_refl (own n.seg.0))

  pub has_there : (n : Name) → n.seg.0 < segment_count e.setup → has (cell_at e.cells (own n.seg.0)).objects n ≡ has st.objects n
  has_there n known =
      sym (is_some-object_at (cell_at e.cells (own n.seg.0)).objects n) ∙ ap is_some (found_there n known) ∙ is_some-object_at st.objects n

  pub placed : (n : Name) → IsTrue (has st.objects n) → n.seg.0 < segment_count e.setup
  placed n there = (sound.shape.placed n there).1

  pub type_there : (n : Name) → IsTrue (has st.objects n) → type_among (cell_at e.cells (own n.seg.0)).objects n ≡ type_at st.objects n
  type_there n there = ap type_of_some (found_there n (placed n there)) ∙ type_told (object_at st.objects n)

  pub count_there : (n : Name) → IsTrue (has st.objects n) → field_count_among (cell_at e.cells (own n.seg.0)).objects n ≡ field_count st n
  count_there n there = ap (λ (o : Option Object). length (fields_of o)) (found_there n (placed n there))

  pub field_there : (n : Name) (i : ℕ) → IsTrue (has st.objects n) → field_among (cell_at e.cells (own n.seg.0)).objects n i ≡ field_at st n i
  field_there n i there = ap (λ (o : Option Object). get_or (fields_of o) i (Holds 0)) (found_there n (placed n there))

  pub type_known : (n : Name) → IfSome (type_at st.objects n) (λ ty. ty.0 < length e.setup.types)
  type_known n = go (object_at st.objects n) refl
    where
      go : (o : Option Object) → object_at st.objects n ≡ o → IfSome (option_and_then (λ (x : Object). x.ty) o) (λ ty. ty.0 < length e.setup.types)
      go None at = tt
      go (Some o) at = (sound.shape.typed n o at).declared

  pub bytes_told : (h : Heap) → IsHeap e.setup h → total object_bytes (cell_at e.cells h).objects ≡ bytes_of e.setup st h
  unfolding bytes_by
  bytes_told h known = ap (λ (os : List Object). total object_bytes os) (objects_shown h known)

  pub register_told : (p : Pid) (r : ℕ) → p.0 < process_count e.setup → held_in (cell_at e.cells (User p)).process r ≡ register st.registers p.0 r
  unfolding part
  register_told p r known = ap (λ (s : ShownPart). held_in s.process r) (end.shows (User p) known).part

  pub exits_told : (h : Heap) → IsHeap e.setup h → in_order (cell_at e.cells h).exits ≡ exits_of st.exits h
  unfolding part
  exits_told h known =
      rising_exits st.exits h (in_order (cell_at e.cells h).exits) (in_order_rises (cell_at e.cells h).exits)
      (λ n. in_order_among n (cell_at e.cells h).exits ∙ ap (λ (s : ShownPart). s.exits n) (end.shows h known).part)

  pub few_exits : (h : Heap) → length (exits_of st.exits h) < 2 ^ 31
  few_exits h =
      omega (arith, exits_length st.exits h, exits_at_most_stores e.setup (journal_of e), count_low has_stored (journal_of e), end.few)

  pub few_fields : (n : Name) → field_count st n ≤ 16
  few_fields n = go (object_at st.objects n) refl
    where
      go : (o : Option Object) → object_at st.objects n ≡ o → length (fields_of o) ≤ 16
      go None at = omega arith
      go (Some o) at = (objects_fit_their_types e.setup (journal_of e) n o end.rules.limits (record { types = end.rules.fields; directory = end.rules.directory }) end.legal at).few

  pub phase_known : (s : ℕ) → IsKnownPhase e.setup (phase_of st.phases s)
  phase_known s = go (phase_of st.phases s) refl
    where
      go : (phase : Phase) → phase_of st.phases s ≡ phase → IsKnownPhase e.setup phase
      go Unmade is = tt
      go (Populating q) is = sound.shape.declared.populating s q is
      go (Frozen root) is = placed root (sound.no_dangling.frozen s root is)
      go Absorbed is = tt
