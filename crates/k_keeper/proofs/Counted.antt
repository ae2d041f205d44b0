-- How many objects the machine has after a call of a host.
use Rattle.std.proofs.Common.{◌≡◌, ◌⊎◌, ◌≤◌, ◌<◌, ◌+◌, ◌-◌, ◌*◌, ◌^◌, ℕ, nat_lt, le_refl, refl, sym, ap, ◌∙◌, subst, true, false, List, [], ◌∷◌, ◌++◌, length, map, Some, slice_get, inl, inr, arith, zero-le, Result, Ok, Err, OnErr}
use Rattle.std.proofs.lemmas.Bool.{cases_Bool, false≢true, ltb-true}
use Rattle.std.specs.Prelude.{IfOk}
use Rattle.k_types.specs.declared.event.Event.{Event}
use Rattle.k_types.specs.declared.event.Event.TheVariants.{Absorbed, Closing, Done, Ended}
use Rattle.k_types.specs.declared.event.Reply.{Reply}
use Rattle.k_types.specs.declared.event.Reply.TheVariants.{Done as DoneReply, Loaded, Made, Refused, Value}
use Rattle.k_types.specs.declared.names.Heap.{Heap}
use Rattle.k_types.specs.declared.names.Heap.TheVariants.{User}
use Rattle.k_types.specs.declared.names.Pid.{Pid}
use Rattle.k_types.specs.declared.names.SharedId.{SharedId}
use Rattle.k_types.specs.declared.op.Op.{Op}
use Rattle.k_types.specs.declared.op.Op.TheVariants.{KNew, New, SNew}
use Rattle.k_types.specs.Agree.{CellValue}
use Rattle.k_types.specs.Cells.{CellPart}
use Rattle.k_types.specs.Effects.{after_absorbed, step}
use Rattle.k_types.specs.State.{State, opening}
use Rattle.k_types.specs.Steps.{IsLegalHistory, IsPossible, run, state_after}
use Rattle.k_types.specs.Trace.{Trace, segment_count}
use Rattle.k_types.specs.Updates.{keep_exits, set_phase}
use Rattle.k_agree.specs.Agreement.{Agrees}
use Rattle.k_laws.specs.Counts.{is_allocation}
use Rattle.k_host.specs.k_collect.Settling.{IsTheEnd}
use Rattle.k_laws.proofs.Histories.{legal_front, legal_rest, run_append}
use Rattle.k_agree.specs.Shown.{idle_part}
use Rattle.k_laws.specs.Locals.{is_local_in}
use Rattle.k_tie.specs.Values.{NoteValue}
use Rattle.k_host.specs.k_guests.declared.guest.Guest.{Guest}
use Rattle.k_host.specs.k_guests.Objects.{gone_by, made_by, objects_after}
use Rattle.k_host.specs.k_guests.Enough.{lesser}
use Rattle.k_host.specs.k_guests.Serving.{Basis}
use Rattle.k_host.proofs.Objects.{appended_counts, made_or_gone, makes_none, published_counts}
use Rattle.k_book.proofs.Counted.{made_low}
use Rattle.k_host.specs.Calls.{HasAbsorbedIn, HasCollectedIn, HasCollectedKernelIn, HasExitedIn, HasKilledIn, HasOperatedAs, HasOperatedIn, HasPublishedIn}
use Rattle.k_host.specs.Doing.{IsKept as IsKeptInside, IsKeptAndPublished, IsRecorded}
use Rattle.k_host.specs.HostError.{HostError}
use Rattle.k_host.specs.Hosts.{HostServes, HostValue}
use Rattle.k_keeper.specs.Keeping.{CanCount, most_objects, objects_in, objects_then}
use Rattle.k_keeper.specs.Kept.{HaveAbsorbed}
use Rattle.k_keeper.proofs.Refused.{operated_basis}

-- what an event makes and frees comes to and goes from what there was
abbrev pub Counts : HostValue → HostValue → Event → Type 0
Counts h n event = objects_in n + gone_by event ≡ objects_in h + made_by event

local_asks_none : (part : CellPart) (p : ℕ) (op : Op) → is_local_in part p op ≡ true → is_allocation op ≡ false
unfolding is_local_in
local_asks_none part p (New r ty) l = absurd (false≢true l)
local_asks_none part p (KNew r ty) l = absurd (false≢true l)
local_asks_none part p (SNew r s ty) l = absurd (false≢true l)
local_asks_none part p _ l = refl

-- the end of a collection makes nothing
pub end_makes_none : (heap : Heap) (event : Event) → IsTheEnd heap (event ∷ []) → made_by event ≡ 0
end_makes_none heap event one = let is : event ≡ Ended heap one.objects one.bytes one.exits one.shares = (cc one.is) in ap made_by is

module _ (trace : Trace) where
  last_possible : (xs : List Event) (event : Event) → IsLegalHistory trace (xs ++ event ∷ []) → IsPossible trace (state_after trace xs) event
  last_possible xs event legal = (legal_rest trace (opening trace) xs (event ∷ []) legal).0

  pub one_more : (xs : List Event) (event : Event) → IsLegalHistory trace (xs ++ event ∷ []) → objects_after trace (xs ++ event ∷ []) + gone_by event ≡ objects_after trace xs + made_by event
  one_more xs event legal = appended_counts trace xs event (last_possible xs event legal)

  -- behind what a process publishes
  behind_tail : (xs : List Event) (pid : Pid) (note : NoteValue) (value : CellValue) (event : Event) → Agrees trace (User pid) note value → IsLegalHistory trace ((xs ++ value.tail) ++ event ∷ []) →
      objects_after trace ((xs ++ value.tail) ++ event ∷ []) + gone_by event ≡ objects_after trace xs + made_by event
  behind_tail xs pid note value event agrees legal =
      one_more (xs ++ value.tail) event legal
      ∙ ap (λ n. n + made_by event) (published_counts trace xs pid note value agrees (legal_front trace (opening trace) (xs ++ value.tail) (event ∷ []) legal))

  -- and behind an event that makes and frees nothing
  behind_one : (xs : List Event) (pid : Pid) (note : NoteValue) (value : CellValue) (first event : Event) → made_by first ≡ 0 → gone_by first ≡ 0 → Agrees trace (User pid) note value →
      IsLegalHistory trace (((xs ++ value.tail) ++ first ∷ []) ++ event ∷ []) → objects_after trace (((xs ++ value.tail) ++ first ∷ []) ++ event ∷ []) + gone_by event ≡ objects_after trace xs + made_by event
  behind_one xs pid note value first event none_made none_gone agrees legal =
      let last = one_more ((xs ++ value.tail) ++ first ∷ []) event legal in
      let before = behind_tail xs pid note value first agrees (legal_front trace (opening trace) ((xs ++ value.tail) ++ first ∷ []) (event ∷ []) legal) in
      omega (arith, last, before, none_made, none_gone)

  -- an absorption makes and frees nothing
  absorbed_same : (ids : List SharedId) (st : State) → length (run trace st (map Absorbed ids)).objects ≡ length st.objects
  unfolding step after_absorbed set_phase keep_exits
  absorbed_same [] st = refl
  absorbed_same (id ∷ ids) st = absorbed_same ids (step trace st (Absorbed id))

module _ (h n : HostValue) (serves : HostServes h) (serves_then : HostServes n) (same : n.basis ≡ h.basis) where
  legal : IsLegalHistory h.basis.trace n.book.journal.list
  legal = subst (λ (b : Basis). IsLegalHistory b.trace n.book.journal.list) same serves_then.rest.book.stands.agrees.legal

  counts_by : (xs : List Event) (event : Event) → n.book.journal.list ≡ xs → objects_after h.basis.trace xs + gone_by event ≡ objects_in h + made_by event → Counts h n event
  counts_by xs event is counts =
      ap (λ (b : Basis). objects_after b.trace n.book.journal.list + gone_by event) same ∙ ap (λ events. objects_after h.basis.trace events + gone_by event) is ∙ counts

  agrees_of : (p : ℕ) (g : Guest) → slice_get h.guests p ≡ Some g → Agrees h.basis.trace (User g.cell.pid) g.cell.note g.cell.value
  agrees_of p g at = (serves.all.each p g at).agrees

  -- what a process publishes makes and frees none
  pub published_objects : (pid : Pid) → HasPublishedIn h n pid → objects_in n ≡ objects_in h
  published_objects pid c =
      ap (λ (b : Basis). objects_after b.trace n.book.journal.list) same ∙ ap (objects_after h.basis.trace) c.way.journal
      ∙ published_counts h.basis.trace h.book.journal.list c.before.cell.pid c.before.cell.note c.before.cell.value (agrees_of pid.0 c.before c.there) (subst (IsLegalHistory h.basis.trace) c.way.journal legal)

  exited_counts : (pid : Pid) (event : Event) → HasExitedIn h n pid event → Counts h n event
  exited_counts pid event c =
      counts_by ((h.book.journal.list ++ c.before.cell.value.tail) ++ event ∷ []) event c.way.goes_on.appended.journal
      (behind_tail h.basis.trace h.book.journal.list c.before.cell.pid c.before.cell.note c.before.cell.value event (agrees_of pid.0 c.before c.there) (subst (IsLegalHistory h.basis.trace) c.way.goes_on.appended.journal legal))

  pub collected_counts : (pid : Pid) (event : Event) → HasCollectedIn h n pid event → Counts h n event
  collected_counts pid event c =
      counts_by _ event c.way.journal
      (behind_one h.basis.trace h.book.journal.list c.before.cell.pid c.before.cell.note c.before.cell.value _ event refl refl (agrees_of pid.0 c.before c.there) (subst (IsLegalHistory h.basis.trace) c.way.journal legal))

  pub kernel_counts : (pid : Pid) (event : Event) → HasCollectedKernelIn h n pid event → Counts h n event
  kernel_counts pid event c =
      counts_by _ event c.way.journal
      (behind_one h.basis.trace h.book.journal.list c.before.cell.pid c.before.cell.note c.before.cell.value _ event refl refl (agrees_of pid.0 c.before c.there) (subst (IsLegalHistory h.basis.trace) c.way.journal legal))

  absorbed_counts : (id : SharedId) (event : Event) → HasAbsorbedIn h n id event → Counts h n event
  absorbed_counts id event c =
      counts_by (h.book.journal.list ++ event ∷ []) event c.has_absorbed.own.journal
      (one_more h.basis.trace h.book.journal.list event (subst (IsLegalHistory h.basis.trace) c.has_absorbed.own.journal legal))

  killed_counts : (pid : Pid) (op : Op) (event : Event) → HasKilledIn h n pid op event → Counts h n event
  killed_counts pid op event c =
      let xs = h.book.journal.list ++ c.before.cell.value.tail in
      let whole = subst (IsLegalHistory h.basis.trace) c.way.journal legal in
      let last = behind_tail h.basis.trace xs c.target_before.cell.pid c.target_before.cell.note c.target_before.cell.value event (agrees_of c.target.0 c.target_before c.target_there) whole in
      let front = legal_front h.basis.trace (opening h.basis.trace) xs c.target_before.cell.value.tail (legal_front h.basis.trace (opening h.basis.trace) (xs ++ c.target_before.cell.value.tail) (event ∷ []) whole) in
      let first = published_counts h.basis.trace h.book.journal.list c.before.cell.pid c.before.cell.note c.before.cell.value (agrees_of pid.0 c.before c.there) front in
      counts_by ((xs ++ c.target_before.cell.value.tail) ++ event ∷ []) event c.way.journal (last ∙ ap (λ k. k + made_by event) first)

  operated_as_counts : (pid : Pid) (op : Op) (event : Event) → HasOperatedAs h n pid op event → Counts h n event
  operated_as_counts pid op event c = by_way c.way.done
    where
      by_way : IsKeptInside h.basis op c.before c.after h.kernel n.kernel h.shared n.shared h.book n.book c.way.said ⊎ IsKeptAndPublished h.basis op c.before c.after h.kernel n.kernel h.shared n.shared h.book n.book c.way.said
          ⊎ IsRecorded h.basis op c.before c.after h.kernel n.kernel h.shared n.shared h.book n.book event → Counts h n event
      by_way (inl inside) =
          let none = makes_none h.basis.trace (state_after h.basis.trace (c.before.cell.note.list ++ c.before.cell.value.tail)) c.before.cell.pid.0 op c.way.said
          (local_asks_none (idle_part c.before.cell.value) c.before.cell.pid.0 op inside.own) inside.inside.possible.replied in
          counts_by h.book.journal.list event (ap (λ (b : Rattle.k_book.specs.Books.BookRecord). b.journal.list) inside.book_is)
          (ap (λ (e : Event). objects_in h + gone_by e) c.way.event_is ∙ ap (λ k. objects_in h + k) (sym none) ∙ ap (λ (e : Event). objects_in h + made_by e) (sym c.way.event_is))
      by_way (inr (inl inside)) =
          let none = makes_none h.basis.trace (state_after h.basis.trace (c.before.cell.note.list ++ c.before.cell.value.tail)) c.before.cell.pid.0 op c.way.said
          (local_asks_none (idle_part c.before.cell.value) c.before.cell.pid.0 op inside.own) inside.inside.possible.replied in
          let whole = subst (IsLegalHistory h.basis.trace) inside.published.journal legal in
          let same_count = published_counts h.basis.trace h.book.journal.list inside.mid.cell.pid inside.mid.cell.note inside.mid.cell.value inside.inside.serves.agrees whole in
          counts_by (h.book.journal.list ++ inside.mid.cell.value.tail) event inside.published.journal
          (ap (λ k. k + gone_by event) same_count ∙ ap (λ (e : Event). objects_in h + gone_by e) c.way.event_is ∙ ap (λ k. objects_in h + k) (sym none) ∙ ap (λ (e : Event). objects_in h + made_by e) (sym c.way.event_is))
      by_way (inr (inr recorded)) =
          counts_by ((h.book.journal.list ++ c.before.cell.value.tail) ++ event ∷ []) event recorded.appended.journal
          (behind_tail h.basis.trace h.book.journal.list c.before.cell.pid c.before.cell.note c.before.cell.value event (agrees_of pid.0 c.before c.there) (subst (IsLegalHistory h.basis.trace) recorded.appended.journal legal))

  operated_counts : (pid : Pid) (op : Op) (event : Event) → HasOperatedIn h n pid op event → Counts h n event
  operated_counts pid op event (inl c) = operated_as_counts pid op event c
  operated_counts pid op event (inr c) = killed_counts pid op event c

-- absorptions leave the number of objects
pub still_counted : (h n : HostValue) (left rest : ℕ) → HaveAbsorbed h n left rest → objects_in n ≡ objects_in h
still_counted h n left rest a =
    ap (λ (b : Basis). objects_after b.trace n.book.journal.list) a.basis ∙ ap (objects_after h.basis.trace) a.journal
    ∙ ap (λ (st : State). length st.objects) (run_append h.basis.trace (opening h.basis.trace) h.book.journal.list (map Absorbed a.ids))
    ∙ absorbed_same h.basis.trace a.ids (state_after h.basis.trace h.book.journal.list)

-- an operation that asks for no object makes none
done_makes_none : (trace : Trace) (st : State) (pid : Pid) (op : Op) (said : Reply) (event : Event) → event ≡ Done pid op said → is_allocation op ≡ false → IsPossible trace st event → made_by event ≡ 0
done_makes_none trace st pid op said event is none may =
    ap made_by is ∙ makes_none trace st pid.0 op said none (subst (IsPossible trace st) is may).replied

operated_makes_none : (h n : HostValue) (pid : Pid) (op : Op) (event : Event) → HasOperatedIn h n pid op event → is_allocation op ≡ false → made_by event ≡ 0
operated_makes_none h n pid op event (inr c) none = ap made_by c.way.event_is
operated_makes_none h n pid op event (inl c) none = by_way c.way.done
  where
    by_way : IsKeptInside h.basis op c.before c.after h.kernel n.kernel h.shared n.shared h.book n.book c.way.said ⊎ IsKeptAndPublished h.basis op c.before c.after h.kernel n.kernel h.shared n.shared h.book n.book c.way.said
        ⊎ IsRecorded h.basis op c.before c.after h.kernel n.kernel h.shared n.shared h.book n.book event → made_by event ≡ 0
    by_way (inl inside) = done_makes_none h.basis.trace _ c.before.cell.pid op c.way.said event c.way.event_is none (subst (IsPossible h.basis.trace _) (sym c.way.event_is) inside.inside.possible)
    by_way (inr (inl inside)) = done_makes_none h.basis.trace _ c.before.cell.pid op c.way.said event c.way.event_is none (subst (IsPossible h.basis.trace _) (sym c.way.event_is) inside.inside.possible)
    by_way (inr (inr recorded)) = done_makes_none h.basis.trace _ c.before.cell.pid op c.way.said event c.way.event_is none recorded.appended.possible

-- what an event makes finds room among so many
abbrev Told : HostValue → HostValue → ℕ → ℕ → Event → Type 0
Told h n objects most event = Counts h n event × ((made_by event ≡ 0) ⊎ (objects < most))

lesser_low : (a b : ℕ) → lesser a b ≤ b
lesser_low a b = elim (cases_Bool (nat_lt a b)) [
  | inl below ↦ rw below (let less = ltb-true a b below in omega (arith, less))
  | inr above ↦ rw above (le_refl b)
]

pub most_low : (h : HostValue) (most : ℕ) → most ≡ most_objects h → most < 2 ^ 32
most_low h most is = let low = lesser_low (segment_count h.basis.trace * h.basis.rooms.objects) (2 ^ 32 - 1) in omega (arith, is, low)

pub most_same : (h n : HostValue) (most : ℕ) → most ≡ most_objects h → n.basis ≡ h.basis → most ≡ most_objects n
most_same h n most is same = is ∙ ap (λ (b : Basis). lesser (segment_count b.trace * b.rooms.objects) (2 ^ 32 - 1)) (sym same)

module _ (h n : HostValue) (objects most : ℕ) (counted : objects_in h ≡ objects) (listed : objects ≤ most) (few : most < 2 ^ 32) where
  gone_few : (event : Event) → Told h n objects most event → gone_by event ≤ objects
  gone_few event told = elim (made_or_gone event) [
    | inl none ↦ let counts = told.0 in omega (arith, counts, counted, none)
    | inr none ↦ omega (arith, none)
  ]

  fits : (event : Event) → Told h n objects most event → objects + made_by event ≤ most
  fits event told = elim told.1 [
    | inl none ↦ omega (arith, none, listed)
    | inr left ↦ let low = made_low event in omega (arith, low, left)
  ]

  pub can_count : (r : Result Event HostError) → IfOk r (Told h n objects most) → CanCount objects r
  can_count (Ok event) told = (gone_few event told, let room = fits event told in omega (arith, room, few))
  can_count (Err why) told = tt

  pub then_counted : (r : Result Event HostError) → IfOk r (Told h n objects most) → OnErr r (n ≡ h) → objects_in n ≡ objects_then objects r
  then_counted (Ok event) told same = let counts = told.0 in let gone = gone_few event told in omega (arith, counts, counted, gone)
  then_counted (Err why) told same = ap objects_in same ∙ counted

  pub then_listed : (r : Result Event HostError) → IfOk r (Told h n objects most) → objects_then objects r ≤ most
  then_listed (Ok event) told = let room = fits event told in let gone = gone_few event told in omega (arith, room, gone)
  then_listed (Err why) told = listed

  module _ (serves : HostServes h) (serves_then : HostServes n) where
    pub operate_told : (pid : Pid) (op : Op) → (is_allocation op ≡ true → objects < most) → (r : Result Event HostError) → IfOk r (λ event. HasOperatedIn h n pid op event) → IfOk r (Told h n objects most)
    operate_told pid op left (Err why) done = tt
    operate_told pid op left (Ok event) done = (
      operated_counts h n serves serves_then (operated_basis h n pid op event done) pid op event done,
      elim (cases_Bool (is_allocation op)) [
        | inl asks ↦ inr (left asks)
        | inr none ↦ inl (operated_makes_none h n pid op event done none)
      ],
    )

    pub collect_told : (pid : Pid) (r : Result Event HostError) → IfOk r (λ event. HasCollectedIn h n pid event) → IfOk r (Told h n objects most)
    collect_told pid (Err why) done = tt
    collect_told pid (Ok event) done = (collected_counts h n serves serves_then (ap (λ (x : HostValue). x.basis) done.host_is) pid event done, inl (end_makes_none _ event done.way.is_end))

    pub kernel_told : (pid : Pid) (r : Result Event HostError) → IfOk r (λ event. HasCollectedKernelIn h n pid event) → IfOk r (Told h n objects most)
    kernel_told pid (Err why) done = tt
    kernel_told pid (Ok event) done = (kernel_counts h n serves serves_then (ap (λ (x : HostValue). x.basis) done.host_is) pid event done, inl (end_makes_none _ event done.way.is_end))

-- an event that ends a process leaves the number of objects
pub exit_same : (h n : HostValue) → HostServes h → HostServes n → (pid : Pid) (r : Result Event HostError) → IfOk r (λ event. HasExitedIn h n pid event) → OnErr r (n ≡ h) → objects_in n ≡ objects_in h
exit_same h n serves serves_then pid (Err why) done same = ap objects_in same
exit_same h n serves serves_then pid (Ok event) done same =
    let counts = exited_counts h n serves serves_then (ap (λ (x : HostValue). x.basis) done.host_is) pid event done in
    let made = ap made_by done.way.event_is in
    let gone = ap gone_by done.way.event_is in
    omega (arith, counts, made, gone)

-- and so does an absorption
pub absorb_same : (h n : HostValue) → HostServes h → HostServes n → (id : SharedId) (r : Result Event HostError) → IfOk r (λ event. HasAbsorbedIn h n id event) → OnErr r (n ≡ h) → objects_in n ≡ objects_in h
absorb_same h n serves serves_then id (Err why) done same = ap objects_in same
absorb_same h n serves serves_then id (Ok event) done same =
    let counts = absorbed_counts h n serves serves_then (ap (λ (x : HostValue). x.basis) done.host_is) id event done in
    let made = ap made_by done.has_absorbed.event_is in
    let gone = ap gone_by done.has_absorbed.event_is in
    omega (arith, counts, made, gone)
