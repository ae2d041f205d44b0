-- What the calls of a host leave of the room that is kept for the ends of its processes.
use Rattle.std.proofs.Common.{◌≡◌, ◌⊎◌, ◌≤◌, ◌+◌, ℕ, refl, sym, ap, ap₂, ◌∙◌, subst, Bool, true, false, List, [], ◌∷◌, ◌++◌, length, Some, slice_get, slice_set, IsFalse, IsTrue, inl, inr, arith, zero-le}
use Rattle.std.proofs.lemmas.Bool.{false≢true}
use Rattle.std.proofs.lemmas.List.{length-append}
use Rattle.std.specs.List.{list_all}
use Rattle.std.specs.Prelude.{if◌then◌else◌}
use Rattle.k_types.specs.declared.event.Event.{Event}
use Rattle.k_types.specs.declared.event.Event.TheVariants.{Done}
use Rattle.k_types.specs.declared.names.CellPhase.TheVariants.{Idle}
use Rattle.k_types.specs.declared.names.Pid.{Pid}
use Rattle.k_types.specs.declared.names.SharedId.{SharedId}
use Rattle.k_types.specs.declared.op.Op.{Op}
use Rattle.k_types.specs.Totals.{total}
use Rattle.k_types.specs.TraceRules.{is_spelled}
use Rattle.k_book.specs.Books.{BookRecord}
use Rattle.k_cell.specs.Holdings.{HoldingsValue}
use Rattle.k_shared.specs.SharedHeaps.{SharedRecord}
use Rattle.k_spell.specs.Spelled.{AreSpelled, is_spelled_event}
use Rattle.k_host.specs.k_guests.declared.guest.Guest.{Guest}
use Rattle.k_host.specs.k_guests.Serving.{Basis}
use Rattle.k_host.specs.Doing.{IsKept as IsKeptInside, IsKeptAndPublished, IsRecorded, LeavesOthers}
use Rattle.k_host.specs.Asked.{has_ended_of}
use Rattle.k_host.specs.Calls.{HasAbsorbedIn, HasCollectedIn, HasCollectedKernelIn, HasExitedIn, HasKilledIn, HasOperatedAs, HasOperatedIn, HasPublishedIn}
use Rattle.k_host.specs.Hosts.{HostServes, HostValue}
use Rattle.k_keeper.specs.Keeping.{IsFit, IsIdle, IsKept, IsSpelledBy, owed_by}
use Rattle.k_keeper.specs.Kept.{IsAlive}
use Rattle.k_keeper.proofs.Insides.{idle_inside}
use Rattle.k_keeper.proofs.Spelled.{end_spelled, settled_spelled, spelled_behind, spelled_both, spelled_longer, spelled_longer_by_two}
use Rattle.k_keeper.proofs.Sums.{each_set, one_of, total_at}
use Rattle.k_types.proofs.Lists.{slice_get-set_other, some_one}

-- what a process owes
bit_low : (b : Bool) → (if b then 0 else 1) ≤ 1
bit_low true = zero-le
bit_low false = omega arith

owed_low : (g : Guest) → owed_by g ≤ length g.cell.value.tail + 1
owed_low g = let bit = bit_low (has_ended_of g) in omega (arith, bit)

owed_least : (g : Guest) → length g.cell.value.tail ≤ owed_by g
owed_least g = omega arith

pub owed_settled : (g : Guest) → g.cell.value.tail ≡ [] → owed_by g ≤ 1
owed_settled g settled = let none : length g.cell.value.tail ≡ 0 = ap length settled in let low = owed_low g in omega (arith, none, low)

pub owed_alive : (g : Guest) → IsFalse (has_ended_of g) → owed_by g ≡ length g.cell.value.tail + 1
owed_alive g lives = ap (λ b. length g.cell.value.tail + (if b then 0 else 1)) lives

owed_ended : (g : Guest) → g.cell.value.tail ≡ [] → IsTrue (has_ended_of g) → owed_by g ≡ 0
owed_ended g settled ended = ap₂ (λ (t : List Event) b. length t + (if b then 0 else 1)) settled ended

-- a journal behind which a tail and an event are written
longer : (xs ys zs : List Event) (e : Event) → zs ≡ (xs ++ ys) ++ e ∷ [] → length zs ≡ length xs + length ys + 1
longer xs ys zs e is =
    let whole : length zs ≡ length (xs ++ ys) + 1 = ap length is ∙ length-append (xs ++ ys) (e ∷ []) in
    let first = length-append xs ys in
    omega (arith, whole, first)

longer_by_two : (xs ys zs : List Event) (d e : Event) → zs ≡ ((xs ++ ys) ++ d ∷ []) ++ e ∷ [] → length zs ≡ length xs + length ys + 2
longer_by_two xs ys zs d e is =
    let whole : length zs ≡ length ((xs ++ ys) ++ d ∷ []) + 1 = ap length is ∙ length-append ((xs ++ ys) ++ d ∷ []) (e ∷ []) in
    let first = longer xs ys ((xs ++ ys) ++ d ∷ []) d refl in
    omega (arith, whole, first)

module _ (h : HostValue) (left : ℕ) (kept : IsKept h left) where
  -- a host of which one process, the kernel and the book have changed
  kept_pair : (n : HostValue) (pid : ℕ) (g w : Guest) (rest : ℕ) → slice_get h.guests pid ≡ Some g → n.guests ≡ slice_set h.guests pid w → n.basis ≡ h.basis → HostServes n → IsIdle w → n.kernel.value.collection ≡ Idle → AreSpelled n.book.journal.list → IsSpelledBy w →
      length n.book.journal.list + owed_by w + rest ≤ length h.book.journal.list + owed_by g + left → IsKept n rest
  kept_pair n pid g w rest at guests basis serves idle kernel journal tail spend = record {
    serves = serves;
    fit = subst IsFit (sym basis) kept.fit;
    spelled = record {
      journal = journal;
      tails = λ k x there. each_set IsSpelledBy h.guests pid w kept.spelled.tails tail k x (sym (ap (λ (gs : List Guest). slice_get gs k) guests) ∙ there);
    };
    idle = λ k x there. each_set IsIdle h.guests pid w kept.idle idle k x (sym (ap (λ (gs : List Guest). slice_get gs k) guests) ∙ there);
    kernel_idle = kernel;
    room =
        let sum = total_at owed_by h.guests pid g w at in
        let now : total owed_by n.guests ≡ total owed_by (slice_set h.guests pid w) = ap (total owed_by) guests in
        let before = kept.room in
        let events : n.basis.rooms.events ≡ h.basis.rooms.events = ap (λ (b : Basis). b.rooms.events) basis in
        omega (arith, sum, now, before, events, spend);
  }

  -- a host of which no process has changed
  kept_rest : (n : HostValue) (rest : ℕ) → n.guests ≡ h.guests → n.basis ≡ h.basis → HostServes n → n.kernel.value.collection ≡ Idle → AreSpelled n.book.journal.list →
      length n.book.journal.list + rest ≤ length h.book.journal.list + left → IsKept n rest
  kept_rest n rest guests basis serves kernel journal spend = record {
    serves = serves;
    fit = subst IsFit (sym basis) kept.fit;
    spelled = record { journal = journal; tails = λ k x there. kept.spelled.tails k x (sym (ap (λ (gs : List Guest). slice_get gs k) guests) ∙ there) };
    idle = λ k x there. kept.idle k x (sym (ap (λ (gs : List Guest). slice_get gs k) guests) ∙ there);
    kernel_idle = kernel;
    room =
        let now : total owed_by n.guests ≡ total owed_by h.guests = ap (total owed_by) guests in
        let before = kept.room in
        let events : n.basis.rooms.events ≡ h.basis.rooms.events = ap (λ (b : Basis). b.rooms.events) basis in
        omega (arith, now, before, events, spend);
  }

  -- there is room for what a process that lives has not published, for its end and for what is left
  pub room_of : (pid : ℕ) (g : Guest) → slice_get h.guests pid ≡ Some g → IsFalse (has_ended_of g) → length h.book.journal.list + length g.cell.value.tail + 1 + left ≤ h.basis.rooms.events
  room_of pid g at lives =
      let one = one_of owed_by h.guests pid g at in
      let owes = owed_alive g lives in
      let room = kept.room in
      omega (arith, one, owes, room)

  -- a process that lives, found by its number
  same_guest : (pid : Pid) (g : Guest) (a : IsAlive h pid) → slice_get h.guests pid.0 ≡ Some g → IsFalse (has_ended_of g)
  same_guest pid g a at = ap has_ended_of (some_one (sym at ∙ a.there)) ∙ a.lives

  -- the end of a process takes what was kept for it
  pub kept_exited : (n : HostValue) (pid : Pid) (event : Event) → IsAlive h pid → HostServes n → HasExitedIn h n pid event → IsKept n left
  kept_exited n pid event alive serves c =
      kept_pair n pid.0 c.before c.after left c.there (ap (λ (x : HostValue). x.guests) c.host_is) (ap (λ (x : HostValue). x.basis) c.host_is) serves
      (λ lives. absurd (false≢true (sym lives ∙ c.way.ended))) c.way.idle
      (spelled_longer h.book.journal.list c.before.cell.value.tail n.book.journal.list event c.way.goes_on.appended.journal kept.spelled.journal (kept.spelled.tails pid.0 c.before c.there) (ap is_spelled_event c.way.event_is))
      (settled_spelled c.after.cell.value.tail c.way.goes_on.settled)
      (let more = longer h.book.journal.list c.before.cell.value.tail n.book.journal.list event c.way.goes_on.appended.journal in
      let owes = owed_alive c.before (same_guest pid c.before alive c.there) in
      let none = owed_ended c.after c.way.goes_on.settled c.way.ended in
      omega (arith, more, owes, none))

  -- a collection adds two events
  pub kept_collected : (n : HostValue) (pid : Pid) (event : Event) (rest : ℕ) → IsAlive h pid → HostServes n → HasCollectedIn h n pid event → left ≡ rest + 2 → IsKept n rest
  kept_collected n pid event rest alive serves c all =
      kept_pair n pid.0 c.before c.after rest c.there (ap (λ (x : HostValue). x.guests) c.host_is) (ap (λ (x : HostValue). x.basis) c.host_is) serves
      (λ lives. c.way.phase) (ap (λ (x : HostValue). x.kernel.value.collection) c.host_is ∙ kept.kernel_idle)
      (spelled_longer_by_two h.book.journal.list c.before.cell.value.tail n.book.journal.list _ event c.way.journal kept.spelled.journal (kept.spelled.tails pid.0 c.before c.there) refl (end_spelled _ event c.way.is_end))
      (settled_spelled c.after.cell.value.tail c.way.settled)
      (let more = longer_by_two h.book.journal.list c.before.cell.value.tail n.book.journal.list _ event c.way.journal in
      let owes = owed_alive c.before (same_guest pid c.before alive c.there) in
      let low = owed_settled c.after c.way.settled in
      omega (arith, more, owes, low, all))

  pub kept_kernel : (n : HostValue) (pid : Pid) (event : Event) (rest : ℕ) → IsAlive h pid → HostServes n → HasCollectedKernelIn h n pid event → left ≡ rest + 2 → IsKept n rest
  kept_kernel n pid event rest alive serves c all =
      kept_pair n pid.0 c.before c.after rest c.there (ap (λ (x : HostValue). x.guests) c.host_is) (ap (λ (x : HostValue). x.basis) c.host_is) serves
      (λ lives. c.way.idle) c.way.phase
      (spelled_longer_by_two h.book.journal.list c.before.cell.value.tail n.book.journal.list _ event c.way.journal kept.spelled.journal (kept.spelled.tails pid.0 c.before c.there) refl (end_spelled _ event c.way.is_end))
      (settled_spelled c.after.cell.value.tail c.way.settled)
      (let more = longer_by_two h.book.journal.list c.before.cell.value.tail n.book.journal.list _ event c.way.journal in
      let owes = owed_alive c.before (same_guest pid c.before alive c.there) in
      let low = owed_settled c.after c.way.settled in
      omega (arith, more, owes, low, all))

  -- an absorption adds one event
  pub kept_absorbed : (n : HostValue) (id : SharedId) (event : Event) (rest : ℕ) → HostServes n → HasAbsorbedIn h n id event → left ≡ rest + 1 → IsKept n rest
  kept_absorbed n id event rest serves c all =
      kept_rest n rest (ap (λ (x : HostValue). x.guests) c.host_is) (ap (λ (x : HostValue). x.basis) c.host_is) serves c.has_absorbed.own.in_phase
      (subst AreSpelled (sym c.has_absorbed.own.journal) (spelled_behind h.book.journal.list event kept.spelled.journal (ap is_spelled_event c.has_absorbed.event_is)))
      (let whole : length n.book.journal.list ≡ length h.book.journal.list + 1 = ap length c.has_absorbed.own.journal ∙ length-append h.book.journal.list (event ∷ []) in
      omega (arith, whole, all))

  -- there is room for what a process has not published
  pub publishing_room : (pid : ℕ) (g : Guest) → slice_get h.guests pid ≡ Some g → length h.book.journal.list + length g.cell.value.tail ≤ h.basis.rooms.events
  publishing_room pid g at =
      let one = one_of owed_by h.guests pid g at in
      let least = owed_least g in
      let room = kept.room in
      omega (arith, one, least, room)

  -- what is published was counted before
  pub kept_published : (n : HostValue) (pid : Pid) → HostServes n → HasPublishedIn h n pid → IsKept n left
  kept_published n pid serves c =
      kept_pair n pid.0 c.before c.after left c.there (ap (λ (x : HostValue). x.guests) c.host_is) (ap (λ (x : HostValue). x.basis) c.host_is) serves
      (λ lives. ap (λ (x : Guest). x.cell.value.collection) c.way.guest_is ∙ kept.idle pid.0 c.before c.there (sym (ap has_ended_of c.way.guest_is) ∙ lives))
      (ap (λ (x : HostValue). x.kernel.value.collection) c.host_is ∙ kept.kernel_idle)
      (subst AreSpelled (sym c.way.journal) (spelled_both h.book.journal.list c.before.cell.value.tail kept.spelled.journal (kept.spelled.tails pid.0 c.before c.there)))
      (settled_spelled c.after.cell.value.tail (ap (λ (x : Guest). x.cell.value.tail) c.way.guest_is))
      (let whole : length n.book.journal.list ≡ length h.book.journal.list + length c.before.cell.value.tail = ap length c.way.journal ∙ length-append h.book.journal.list c.before.cell.value.tail in
      let owes : owed_by c.after ≡ 0 + (if has_ended_of c.before then 0 else 1) = ap owed_by c.way.guest_is in
      let owed : owed_by c.before ≡ length c.before.cell.value.tail + (if has_ended_of c.before then 0 else 1) = refl in
      omega (arith, whole, owes, owed))

  -- an operation adds one event, whether it is published or not
  others_idle : (cells : List Rattle.k_types.specs.Cells.Cell) (k : HoldingsValue) (ss ts : List SharedRecord) → LeavesOthers cells h.kernel k ss ts → k.value.collection ≡ Idle
  others_idle cells k ss ts (inl all) = ap (λ (x : HoldingsValue). x.value.collection) all.kernel_is ∙ kept.kernel_idle
  others_idle cells k ss ts (inr (inl shared)) = shared.idle
  others_idle cells k ss ts (inr (inr kernel)) = ap (λ (x : HoldingsValue). x.value.collection) kernel.kernel_is ∙ kept.kernel_idle

  kept_as : (n : HostValue) (pid : Pid) (op : Op) (event : Event) (rest : ℕ) → IsAlive h pid → IsTrue (is_spelled op) → HostServes n → HasOperatedAs h n pid op event → left ≡ rest + 1 → IsKept n rest
  kept_as n pid op event rest alive spelled serves c all = by_way c.way.done
    where
      lives : IsFalse (has_ended_of c.before)
      lives = same_guest pid c.before alive c.there

      before : AreSpelled c.before.cell.value.tail
      before = kept.spelled.tails pid.0 c.before c.there

      grown_tail : (mid : Guest) → mid.cell.value.tail ≡ c.before.cell.value.tail ++ Done c.before.cell.pid op c.way.said ∷ [] → AreSpelled mid.cell.value.tail
      grown_tail mid is = subst AreSpelled (sym is) (spelled_behind c.before.cell.value.tail (Done c.before.cell.pid op c.way.said) before spelled)

      by_way : IsKeptInside h.basis op c.before c.after h.kernel n.kernel h.shared n.shared h.book n.book c.way.said ⊎ IsKeptAndPublished h.basis op c.before c.after h.kernel n.kernel h.shared n.shared h.book n.book c.way.said
          ⊎ IsRecorded h.basis op c.before c.after h.kernel n.kernel h.shared n.shared h.book n.book event → IsKept n rest
      by_way (inl inside) =
          kept_pair n pid.0 c.before c.after rest c.there (ap (λ (x : HostValue). x.guests) c.host_is) (ap (λ (x : HostValue). x.basis) c.host_is) serves
          (λ now. idle_inside h.basis op c.before c.after c.way.said inside.inside (kept.idle pid.0 c.before c.there lives)) (ap (λ (x : HoldingsValue). x.value.collection) inside.kernel_is ∙ kept.kernel_idle)
          (ap (λ (x : BookRecord). list_all is_spelled_event x.journal.list) inside.book_is ∙ kept.spelled.journal)
          (grown_tail c.after (ap (λ (x : Guest). x.cell.value.tail) inside.inside.guest_is))
          (let list = ap (λ (x : BookRecord). length x.journal.list) inside.book_is in
          let grown : length c.after.cell.value.tail ≡ length c.before.cell.value.tail + 1 = ap (λ (x : Guest). length x.cell.value.tail) inside.inside.guest_is ∙ length-append c.before.cell.value.tail (_ ∷ []) in
          let owes = owed_alive c.before lives in
          let low = owed_low c.after in
          omega (arith, list, grown, owes, low, all))
      by_way (inr (inl published)) =
          kept_pair n pid.0 c.before c.after rest c.there (ap (λ (x : HostValue). x.guests) c.host_is) (ap (λ (x : HostValue). x.basis) c.host_is) serves
          (λ now. ap (λ (x : Guest). x.cell.value.collection) published.published.guest_is ∙ idle_inside h.basis op c.before published.mid c.way.said published.inside (kept.idle pid.0 c.before c.there lives))
          (ap (λ (x : HoldingsValue). x.value.collection) published.kernel_is ∙ kept.kernel_idle)
          (subst AreSpelled (sym published.published.journal) (spelled_both h.book.journal.list published.mid.cell.value.tail kept.spelled.journal (grown_tail published.mid (ap (λ (x : Guest). x.cell.value.tail) published.inside.guest_is))))
          (settled_spelled c.after.cell.value.tail (ap (λ (x : Guest). x.cell.value.tail) published.published.guest_is))
          (let whole : length n.book.journal.list ≡ length h.book.journal.list + length published.mid.cell.value.tail = ap length published.published.journal ∙ length-append h.book.journal.list published.mid.cell.value.tail in
          let grown : length published.mid.cell.value.tail ≡ length c.before.cell.value.tail + 1 = ap (λ (x : Guest). length x.cell.value.tail) published.inside.guest_is ∙ length-append c.before.cell.value.tail (_ ∷ []) in
          let owes = owed_alive c.before lives in
          let low = owed_settled c.after (ap (λ (x : Guest). x.cell.value.tail) published.published.guest_is) in
          omega (arith, whole, grown, owes, low, all))
      by_way (inr (inr recorded)) =
          kept_pair n pid.0 c.before c.after rest c.there (ap (λ (x : HostValue). x.guests) c.host_is) (ap (λ (x : HostValue). x.basis) c.host_is) serves
          (λ now. recorded.idle) (others_idle _ n.kernel h.shared n.shared recorded.others)
          (spelled_longer h.book.journal.list c.before.cell.value.tail n.book.journal.list event recorded.appended.journal kept.spelled.journal before (ap is_spelled_event c.way.event_is ∙ spelled))
          (settled_spelled c.after.cell.value.tail recorded.settled)
          (let more = longer h.book.journal.list c.before.cell.value.tail n.book.journal.list event recorded.appended.journal in
          let owes = owed_alive c.before lives in
          let low = owed_settled c.after recorded.settled in
          omega (arith, more, owes, low, all))

  -- a kill takes what was kept for its target
  kept_killed : (n : HostValue) (pid : Pid) (op : Op) (event : Event) (rest : ℕ) → IsAlive h pid → HostServes n → HasKilledIn h n pid op event → left ≡ rest + 1 → IsKept n rest
  kept_killed n pid op event rest alive serves c all = record {
    serves = serves;
    fit = subst IsFit (sym (ap (λ (y : HostValue). y.basis) c.host_is)) kept.fit;
    spelled = record {
      journal =
          spelled_longer (h.book.journal.list ++ c.before.cell.value.tail) c.target_before.cell.value.tail n.book.journal.list event c.way.journal
          (spelled_both h.book.journal.list c.before.cell.value.tail kept.spelled.journal (kept.spelled.tails pid.0 c.before c.there)) (kept.spelled.tails c.target.0 c.target_before c.target_there) (ap is_spelled_event c.way.event_is);
      tails =
          λ k x there. each_set IsSpelledBy (slice_set h.guests pid.0 c.after) c.target.0 c.target_after
          (each_set IsSpelledBy h.guests pid.0 c.after kept.spelled.tails (settled_spelled c.after.cell.value.tail c.way.settled))
          (settled_spelled c.target_after.cell.value.tail c.way.target_settled) k x (sym (ap (λ (y : HostValue). slice_get y.guests k) c.host_is) ∙ there);
    };
    idle =
        λ k x there. each_set IsIdle (slice_set h.guests pid.0 c.after) c.target.0 c.target_after (each_set IsIdle h.guests pid.0 c.after kept.idle (λ lives. c.way.idle))
        (λ lives. absurd (false≢true (sym lives ∙ c.way.ended))) k x (sym (ap (λ (y : HostValue). slice_get y.guests k) c.host_is) ∙ there);
    kernel_idle = c.way.kernel_idle;
    room =
        let first = total_at owed_by h.guests pid.0 c.before c.after c.there in
        let second = total_at owed_by (slice_set h.guests pid.0 c.after) c.target.0 c.target_before c.target_after (slice_get-set_other h.guests pid.0 c.target.0 c.after c.two ∙ c.target_there) in
        let now : total owed_by n.guests ≡ total owed_by (slice_set (slice_set h.guests pid.0 c.after) c.target.0 c.target_after) = ap (λ (y : HostValue). total owed_by y.guests) c.host_is in
        let more = longer (h.book.journal.list ++ c.before.cell.value.tail) c.target_before.cell.value.tail n.book.journal.list event c.way.journal in
        let both = length-append h.book.journal.list c.before.cell.value.tail in
        let owes = owed_alive c.before (same_guest pid c.before alive c.there) in
        let low = owed_settled c.after c.way.settled in
        let none = owed_ended c.target_after c.way.target_settled c.way.ended in
        let least = owed_least c.target_before in
        let before = kept.room in
        let events : n.basis.rooms.events ≡ h.basis.rooms.events = ap (λ (y : HostValue). y.basis.rooms.events) c.host_is in
        omega (arith, first, second, now, more, both, owes, low, none, least, before, events, all);
  }

  pub kept_operated : (n : HostValue) (pid : Pid) (op : Op) (event : Event) (rest : ℕ) → IsAlive h pid → IsTrue (is_spelled op) → HostServes n → HasOperatedIn h n pid op event → left ≡ rest + 1 → IsKept n rest
  kept_operated n pid op event rest alive spelled serves (inl c) all = kept_as n pid op event rest alive spelled serves c all
  kept_operated n pid op event rest alive spelled serves (inr c) all = kept_killed n pid op event rest alive serves c all
