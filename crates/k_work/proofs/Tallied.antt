-- A table on the way through a journal.
use Rattle.std.proofs.Common.{◌≡◌, ◌⊎◌, inl, inr, ℕ, ◌+◌, ◌<◌, ◌≤◌, ◌^◌, refl, sym, ap, ap₂, ◌∙◌, subst, List, [], ◌∷◌, ◌++◌, Option, Some, None, length, take, drop, slice_get, arith}
use Rattle.std.proofs.lemmas.List.{length-append, take-append-drop, take_more, take_all}
use Rattle.std.proofs.lemmas.Option.{get_or_from_slice_get, slice_get_within}
use Rattle.std.specs.List.{AllByRecursion}
use Rattle.k_types.specs.declared.event.Event.{Event}
use Rattle.k_types.specs.declared.event.Event.TheVariants.{Done, Ended, Absorbed, Closing}
use Rattle.k_types.specs.Effects.{step}
use Rattle.k_types.specs.Known.{IsKnownEvent}
use Rattle.k_types.specs.State.{State, opening}
use Rattle.k_types.specs.Steps.{IsLegalHistory, IsPossible, IsRun, state_after}
use Rattle.k_types.specs.Totals.{total}
use Rattle.k_types.specs.Trace.{Trace, process_count}
use Rattle.k_types.proofs.Sums.{total_append}
use Rattle.k_laws.proofs.Histories.{legal_front, legal_rest, state_next}
use Rattle.k_laws.proofs.KnownLaws.{events_are_known}
use Rattle.k_solo.proofs.Rooms.{history_room}
use Rattle.k_state.specs.Machines.{Machine}
use Rattle.k_state.specs.Setups.{AreSetupRules}
use Rattle.k_state.specs.Rooms.{HasRoom}
use Rattle.k_work.specs.Crediting.{HasRoomForAll, IsAmong, kernel_after, row_for, with_credits}
use Rattle.k_work.specs.Credits.{Credit, asker_of, credit_of, credits, kernel_asker, work_in}
use Rattle.k_work.specs.Tables.{Work, row_of, table_of, work_of}
use Rattle.k_work.proofs.Among.{after_among, credit_among}
use Rattle.k_work.proofs.Credited.{asker_next, credits_next}
use Rattle.k_work.proofs.Numbers.{below_length}
use Rattle.k_work.proofs.Summed.{row_within, table_more}
use Rattle.k_work.proofs.Small.{all_small, few_credits}

-- the machine has done the events, and the table has their work
pub record IsTallied (trace : Trace) (history : List Event) (m : Machine) (who : Option ℕ) (t : Work) : Type 0 where
  pub setup : m.setup ≡ trace
  pub state : m.state ≡ state_after trace history
  pub asker : who ≡ kernel_after None history
  pub table : t ≡ work_of trace history

module _ (trace : Trace) (events : List Event) (rules : AreSetupRules trace) (legal : IsLegalHistory trace events) (few : length events < 2 ^ 29) (i : ℕ) (event : Event) (at : slice_get events i ≡ Some event) where
  abbrev before : List Event
  before = take i events

  next_is : take (i + 1) events ≡ before ++ event ∷ []
  next_is = take_more events i event (slice_get_within events i event at) ∙ ap (λ e. before ++ e ∷ []) (get_or_from_slice_get events i event event at)

  front_legal : (n : ℕ) → IsLegalHistory trace (take n events)
  front_legal n = legal_front trace (opening trace) (take n events) (drop n events) (subst (IsRun trace (opening trace)) (sym (take-append-drop n events)) legal)

  next_legal : IsLegalHistory trace (before ++ event ∷ [])
  next_legal = subst (IsLegalHistory trace) next_is (front_legal (i + 1))

  pub may_come : IsPossible trace (state_after trace before) event
  may_come = (legal_rest trace (opening trace) before (event ∷ []) next_legal).0

  front_few : (n : ℕ) → length (take n events) ≤ length events
  front_few n = let all = ap (λ (es : List Event). length es) (take-append-drop n events) in let apart = length-append (take n events) (drop n events) in omega (arith, all, apart)

  next_few : length (before ++ event ∷ []) < 2 ^ 29
  next_few = omega (arith, ap (λ (es : List Event). length es) next_is, front_few (i + 1), few)

  among : IsAmong (process_count trace) (kernel_after None before)
  among = after_among trace before None (events_are_known trace before rules.limits (front_legal i)) tt

  last : (xs : List Event) → AllByRecursion (IsKnownEvent trace) (xs ++ event ∷ []) → IsKnownEvent trace event
  last [] all = all.0
  last (x ∷ xs) all = last xs all.1

  known : IsKnownEvent trace event
  known = last before (events_are_known trace (before ++ event ∷ []) rules.limits next_legal)

  abbrev after : State
  after = state_after trace (before ++ event ∷ [])

  abbrev new : List Credit
  new = credit_of trace after (kernel_after None before) event

  are_among : AllByRecursion (λ (c : Credit). IsAmong (process_count trace) c.to) new
  are_among = credit_among trace after event (kernel_after None before) known among

  all_more : total (λ (c : Credit). c.work) (credits trace before) + total (λ (c : Credit). c.work) new < 2 ^ 64
  all_more =
      omega (
        arith,
        total_append (λ (c : Credit). c.work) (credits trace before) new,
        ap (λ (cs : List Credit). total (λ (c : Credit). c.work) cs) (credits_next trace before event),
        all_small trace (before ++ event ∷ []) rules next_legal next_few,
        next_few,
      )

  room_of : (cs : List Credit) → ((c : Credit) → cs ≡ c ∷ [] → IsAmong (process_count trace) c.to × (total (λ (d : Credit). d.work) (credits trace before) + c.work < 2 ^ 64)) → (cs ≡ []) ⊎ ((c : Credit) × (cs ≡ c ∷ [])) →
      HasRoomForAll (work_of trace before) cs
  room_of cs each (inl none) = subst (HasRoomForAll (work_of trace before)) (sym none) tt
  room_of cs each (inr one) =
      let c = one.0 in
      let told = each c one.1 in
      let within = row_within (process_count trace) (credits trace before) c.to told.0 in
      let count_low : (row_for (work_of trace before) c.to).collections ≤ length (credits trace before) = within.0 in
      let work_low : (row_for (work_of trace before) c.to).work ≤ total (λ (d : Credit). d.work) (credits trace before) = within.1 in
      let count = below_length (λ p. row_of (credits trace before) (Some p)) (process_count trace) in
      subst (HasRoomForAll (work_of trace before)) (sym one.1) (
        subst (λ n. IsAmong n c.to) (sym count) told.0,
        (omega (arith, count_low, few_credits trace before, front_few i, few), omega (arith, work_low, told.1)),
        tt,
      )

  one_at_most : (e : Event) (st : State) (who : Option ℕ) → (credit_of trace st who e ≡ []) ⊎ ((c : Credit) × (credit_of trace st who e ≡ c ∷ []))
  one_at_most (Done pid op reply) st who = inl refl
  one_at_most (Ended h objects bytes exits shares) st who = inr (record { to = asker_of who h; work = work_in trace st h }, refl)
  one_at_most (Absorbed s) st who = inl refl
  one_at_most Closing st who = inl refl

  room_for : HasRoomForAll (work_of trace before) new
  room_for =
      room_of new
      (λ c one. ((subst (AllByRecursion (λ (d : Credit). IsAmong (process_count trace) d.to)) one are_among).0, omega (arith, all_more, ap (λ (cs : List Credit). total (λ (d : Credit). d.work) cs) one)))
      (one_at_most event after (kernel_after None before))

  table_then : with_credits new (work_of trace before) ≡ work_of trace (before ++ event ∷ [])
  table_then = table_more (process_count trace) (credits trace before) new are_among ∙ ap (table_of (process_count trace)) (sym (credits_next trace before event))

  module _ (m : Machine) (who : Option ℕ) (t : Work) (tallied : IsTallied trace (take i events) m who t) where
    -- the event can come
    pub may_be_taken : IsPossible m.setup m.state event
    may_be_taken = subst (λ (s : Trace). IsPossible s m.state event) (sym tallied.setup) (subst (λ (st : State). IsPossible trace st event) (sym tallied.state) may_come)

    -- and there is room for it
    pub room_to_take : HasRoom 1 m.state
    room_to_take = subst (HasRoom 1) (sym tallied.state) (history_room 1 trace before (omega (arith, front_few i, few)))

    module _ (n : Machine) (setup : n.setup ≡ m.setup) (state : n.state ≡ step m.setup m.state event) where
      state_is : n.state ≡ after
      state_is = state ∙ ap₂ (λ (s : Trace) (st : State). step s st event) tallied.setup tallied.state ∙ sym (state_next trace before event)

      credit_is : credit_of n.setup n.state who event ≡ new
      credit_is =
          ap (λ (s : Trace). credit_of s n.state who event) (setup ∙ tallied.setup)
          ∙ ap₂ (λ (st : State) (w : Option ℕ). credit_of trace st w event) state_is tallied.asker

      -- the table has room for its credit
      pub room_to_credit : HasRoomForAll t (credit_of n.setup n.state who event)
      room_to_credit = subst (λ (cs : List Credit). HasRoomForAll t cs) (sym credit_is) (subst (λ (w : Work). HasRoomForAll w new) (sym tallied.table) room_for)

      -- and has it then
      pub tallied_next : IsTallied trace (take (i + 1) events) n (kernel_asker event who) (with_credits (credit_of n.setup n.state who event) t)
      tallied_next = subst (λ (es : List Event). IsTallied trace es n (kernel_asker event who) (with_credits (credit_of n.setup n.state who event) t)) (sym next_is) (record {
        setup = setup ∙ tallied.setup;
        state = state_is;
        asker = ap (kernel_asker event) tallied.asker ∙ sym (asker_next None before event);
        table = ap₂ (λ (cs : List Credit) (w : Work). with_credits cs w) credit_is tallied.table ∙ table_then;
      })

      -- the same of an asker and a table that are known to be these
      pub tallied_then : (asked : Option ℕ) (credited : Work) → asked ≡ kernel_asker event who → credited ≡ with_credits (credit_of n.setup n.state who event) t → IsTallied trace (take (i + 1) events) n asked credited
      tallied_then asked credited same_asker same_table =
          subst (λ (w : Option ℕ). IsTallied trace (take (i + 1) events) n w credited) (sym same_asker)
          (subst (λ (u : Work). IsTallied trace (take (i + 1) events) n (kernel_asker event who) u) (sym same_table) tallied_next)

-- all events are tallied
pub all_tallied : (trace : Trace) (events : List Event) (i : ℕ) (m : Machine) (who : Option ℕ) (t : Work) → length events ≤ i → IsTallied trace (take i events) m who t → t ≡ work_of trace events
all_tallied trace events i m who t all tallied = tallied.table ∙ ap (λ (es : List Event). work_of trace es) (take_all i events all)
