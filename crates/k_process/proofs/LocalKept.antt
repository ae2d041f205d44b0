-- An operation that a process does inside its own heap keeps its cell in agreement.
use Rattle.std.proofs.Common.{◌≡◌, ◌||◌, ◌+◌, not, true, false, refl, sym, ap, ◌∙◌, subst, List, [], ◌∷◌, ◌++◌, append_assoc, Bool, Option, Some, None, is_some, ℕ}
use Rattle.std.specs.List.{list_all, list_any}
use Rattle.std.proofs.lemmas.Bool.{and_from, false≢true, or_left, or_right}
use Rattle.k_types.specs.declared.event.Event.{Event}
use Rattle.k_types.specs.declared.event.Event.TheVariants.{Done, Ended, Absorbed, Closing}
use Rattle.k_types.specs.declared.event.Reply.{Reply}
use Rattle.k_types.specs.declared.names.CellPhase.TheVariants.{Idle}
use Rattle.k_types.specs.declared.names.Heap.{Heap}
use Rattle.k_types.specs.declared.names.Heap.TheVariants.{User}
use Rattle.k_types.specs.declared.names.Name.{Name}
use Rattle.k_types.specs.declared.names.Pid.{Pid}
use Rattle.k_types.specs.declared.op.Op.{Op}
use Rattle.k_types.specs.declared.op.Op.TheVariants.{Store, Put, KCollect}
use Rattle.k_types.specs.Agree.{CellValue}
use Rattle.k_types.specs.Cells.{Cell, CellPart, ShownPart, book_part, cells_touched, part, touches}
use Rattle.k_types.specs.Effects.{step}
use Rattle.k_types.specs.Local.{AreLocal, is_local}
use Rattle.k_types.specs.Names.{among, heap_eq}
use Rattle.k_types.specs.Owners.{user}
use Rattle.k_types.specs.Sound.{IsSound}
use Rattle.k_types.specs.State.{State, is_scanned, opening, Content}
use Rattle.k_types.specs.Steps.{IsLegalHistory, IsPossible, in_range, no_orphan, run, state_after, waits_for_orphans}
use Rattle.k_types.specs.Trace.{Trace}
use Rattle.k_types.specs.TraceRules.{AreLimits}
use Rattle.k_types.proofs.NameTests.{heap_eq_refl, heap_eq-true}
use Rattle.k_laws.proofs.Histories.{legal_append, state_next}
use Rattle.k_laws.proofs.OwnerOf.{owner_user}
use Rattle.k_laws.proofs.Tails.{local_touches}
use Rattle.k_laws.specs.BookChanges.{owner_in}
use Rattle.k_laws.proofs.ChangesLaws.{the_book_tells_the_owners}
use Rattle.k_commit.specs.k_agree.Agreement.{Agrees, Shows}
use Rattle.k_commit.proofs.AtTheEnd.{cell_sound}
use Rattle.k_laws.specs.CellAfter.{unless_refused}
use Rattle.k_laws.specs.Locals.{is_local_in}
use Rattle.k_laws.proofs.SquaresLaws.{local_operations_are_told, replies_are_told, steps_show_in_the_parts-cells}
use Rattle.k_commit.specs.Shown.{ShowsIdle}
use Rattle.k_commit.proofs.Idle.{not_open, part_shown, shows_part}
use Rattle.k_tie.specs.Values.{NoteValue}
use Rattle.k_commit.specs.Heaps.{has_ended_in}
use Rattle.k_process.specs.Locals.{IsMachines, ShowOwn, after_local, local_answer, local_change, written_through}
use Rattle.k_process.proofs.Told.{local_told, machines}

pub written_idle : (b : Option Name) (i : ℕ) (content : Content) (v : CellValue) → (written_through b i content v).collection ≡ v.collection
written_idle None i content v = refl
written_idle (Some x) i content v = refl

pub change_idle : (v : CellValue) (op : Op) → (local_change v op).collection ≡ v.collection
unfolding local_change
change_idle v (Store base i value) = written_idle _ i _ v
change_idle v (Put base i number) = written_idle _ i _ v
change_idle v _ = refl

pub unless_idle : (said : Reply) (w v : CellValue) → w.collection ≡ v.collection → (unless_refused said w v).collection ≡ v.collection
unless_idle Rattle.k_types.specs.declared.event.Reply.TheVariants.Done w v e = e
unless_idle (Rattle.k_types.specs.declared.event.Reply.TheVariants.Made n) w v e = e
unless_idle (Rattle.k_types.specs.declared.event.Reply.TheVariants.Loaded value) w v e = e
unless_idle (Rattle.k_types.specs.declared.event.Reply.TheVariants.Value n) w v e = e
unless_idle (Rattle.k_types.specs.declared.event.Reply.TheVariants.Refused fault) w v e = refl

-- a local operation opens no collection
pub local_idle : (v : CellValue) (pid : Pid) (op : Op) (said : Reply) → (after_local pid op said v).collection ≡ v.collection
local_idle v pid op said = unless_idle said (local_change v op) v (change_idle v op)

-- a test that each of the cells passes
pub all_of_cells : (f : Cell → Bool) (cells : List Cell) → ((c : Cell) → list_any (λ d. heap_eq d c) cells ≡ true → f c ≡ true) → list_all f cells ≡ true
all_of_cells f [] each = refl
all_of_cells f (c ∷ cells) each =
    and_from (f c) (list_all f cells) (each c (or_left _ _ (heap_eq_refl c))) (all_of_cells f cells (λ d t. each d (or_right (heap_eq c d) _ t)))

-- one more local operation
pub local_push : (trace : Trace) (pid : Pid) (op : Op) (said : Reply) (st : State) (tail : List Event) → AreLocal trace pid.0 st tail → is_local (run trace st tail) pid.0 op ≡ true →
    AreLocal trace pid.0 st (tail ++ Done pid op said ∷ [])
local_push trace pid op said st [] l here = (refl, here, tt)
local_push trace pid op said st (Done q other answer ∷ tail) l here = (l.0, l.1, local_push trace pid op said (step trace st (Done q other answer)) tail l.2 here)
local_push trace pid op said st (Ended h a b c d ∷ tail) l here = absurd l
local_push trace pid op said st (Absorbed s ∷ tail) l here = absurd l
local_push trace pid op said st (Closing ∷ tail) l here = absurd l

-- no local operation waits for orphans
waits_not : (st : State) (p : ℕ) (op : Op) → is_local st p op ≡ true → waits_for_orphans op ≡ false
unfolding is_local
waits_not st p KCollect l = absurd (false≢true l)
waits_not st p _ l = refl

module _ (trace : Trace) (limits : AreLimits trace) (pid : Pid) (note : NoteValue) (v : CellValue) (op : Op) (said : Reply) (a : Agrees trace (User pid) note v) (idle : v.collection ≡ Idle)
    (lives : has_ended_in v.process ≡ false) (ranged : in_range trace op ≡ true) (answer : local_answer v pid.0 op ≡ Some said) where
  abbrev st : State
  st = state_after trace (note.list ++ v.tail)

  abbrev event : Event
  event = Done pid op said

  abbrev w : CellValue
  w = after_local pid op said v

  sound : IsSound trace st
  sound = cell_sound trace (User pid) note v limits a

  shown_idle : ShowsIdle trace st (User pid) v
  shown_idle = record { shows = a.shows; idle = idle }

  living : among pid.0 st.ended ≡ false
  unfolding part
  living = sym (ap (λ (s : ShownPart). has_ended_in s.process) a.shows.part) ∙ lives

  owned : owner_in trace (book_part trace st) (pid.0 + 1) ≡ user pid.0
  owned = ap (λ (own : ℕ → Heap). own (pid.0 + 1)) (the_book_tells_the_owners trace st) ∙ owner_user trace st pid.0 a.there living

  own : ShowOwn trace (book_part trace st) (part trace st) pid v
  own = record { part = sym (part_shown trace st (User pid) v shown_idle); owner = owned }

  does : IsMachines trace (book_part trace st) (part trace st) pid v w op said
  does = machines trace (book_part trace st) (part trace st) pid v op said own answer

  local : is_local st pid.0 op ≡ true
  local =
      local_operations_are_told trace st pid.0 op a.there living
      ∙ ap (λ (c : CellPart). is_local_in c pid.0 op) (sym (part_shown trace st (User pid) v shown_idle))
      ∙ sym (local_told v pid.0 op)
      ∙ ap is_some answer

  alone : (c : Cell) → touches trace st event c ≡ heap_eq (user pid.0) c
  alone c = local_touches trace st pid op said c a.there living local

  idle_here : list_all (λ c. not (is_scanned st.scans c)) (cells_touched trace st event) ≡ true
  idle_here = all_of_cells (λ c. not (is_scanned st.scans c)) (cells_touched trace st event)
      (λ c t. let is = heap_eq-true (user pid.0) c (sym (alone c) ∙ t) in
      ap (λ (d : Cell). not (is_scanned st.scans d)) (sym is) ∙ ap (λ (scan : Option (List Name)). not (is_some scan)) (not_open trace st (User pid) v shown_idle))

  pub local_is_possible : IsPossible trace st event
  local_is_possible = record {
    known = a.there;
    lives = living;
    in_range = ranged;
    idle = idle_here;
    orphans = ap (λ t. not t || no_orphan trace st) (waits_not st pid.0 op local);
    replied = does.replied ∙ sym (replies_are_told trace st pid.0 op limits a.there living ranged);
  }

  legal : IsLegalHistory trace (note.list ++ (v.tail ++ event ∷ []))
  legal = subst (IsLegalHistory trace) (append_assoc note.list v.tail (event ∷ [])) (legal_append trace (opening trace) (note.list ++ v.tail) (event ∷ []) a.legal (local_is_possible, tt))

  after : state_after trace (note.list ++ (v.tail ++ event ∷ [])) ≡ step trace st event
  after = ap (state_after trace) (sym (append_assoc note.list v.tail (event ∷ []))) ∙ state_next trace (note.list ++ v.tail) event

  tail_state : run trace (state_after trace note.list) v.tail ≡ st
  tail_state = sym (Rattle.k_laws.proofs.Histories.run_append trace (opening trace) note.list v.tail)

  pub local_agrees : Agrees trace (User pid) note w
  local_agrees = record {
    there = a.there;
    number = a.number;
    legal = legal;
    tail = local_push trace pid op said (state_after trace note.list) v.tail a.tail (ap (λ (su : State). is_local su pid.0 op) tail_state ∙ local);
    shows =
        subst (λ (su : State). Shows trace su (User pid) w) (sym after)
        (shows_part trace (step trace st event) (User pid) w (local_idle v pid op said ∙ idle)
        (does.after ∙ sym (steps_show_in_the_parts-cells trace st event sound local_is_possible (user pid.0)))).shows;
    counted = a.counted;
  }
