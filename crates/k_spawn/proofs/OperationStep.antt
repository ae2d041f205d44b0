-- An operation of the first version in both machines.
use Rattle.std.proofs.Common.{◌≡◌, ◌⊎◌, ◌∙◌, ℕ, ◌≤◌, ◌==◌, ◌&&◌, ◌||◌, not, Bool, true, false, cond, List, [], ◌∷◌, ◌++◌, filter, map, get_or, Option, Some, None, refl, sym, ap, ap₂, subst, inl, inr, IsTrue, IsFalse}
use Rattle.std.specs.List.{list_all}
use Rattle.std.proofs.lemmas.Bool.{and_from, false≢true, or_left}
use Rattle.std.proofs.lemmas.List.Folds.{list_all-append, list_any-append}
use Rattle.k_types.specs.declared.names.Heap.{Heap}
use Rattle.k_types.specs.declared.event.Event.{Event}
use Rattle.k_types.specs.declared.event.Event.TheVariants.{Done, Absorbed as AbsorbedEvent}
use Rattle.k_types.specs.declared.event.Reply.TheVariants.{Done as DoneReply}
use Rattle.k_types.specs.declared.op.Op.{Op}
use Rattle.k_types.specs.declared.op.Op.TheVariants.{KCollect, Resize}
use Rattle.k_types.specs.FileOrder.{absorptions, events_of, heap_begun, with_end}
use Rattle.k_types.specs.Names.{among}
use Rattle.k_types.specs.Numbers.{numbers_below}
use Rattle.k_types.specs.Replies.{answer, faults, first_fault, reply_to}
use Rattle.k_types.specs.State.{State}
use Rattle.k_types.specs.Steps.{IsLegalHistory, done_by, is_orphan, run, waits_for_orphans}
use Rattle.k_types.specs.Trace.{Trace}
use Rattle.k_types.specs.TraceRules.{is_exit, is_of_version, is_resize}
use Rattle.k_laws.proofs.Constant.{resizes, run_maxima}
use Rattle.k_laws.proofs.Histories.{done_append}
use Rattle.k_spawn.specs.Agreement.{replies_in}
use Rattle.k_spawn.specs.Scripts.{Script, limit_for}
use Rattle.k_spawn.specs.Translation.{translation}
use Rattle.k_spawn.specs.Tree.{Tree, trace_there}
use Rattle.k_spawn.proofs.ChildTree.{first_child}
use Rattle.k_spawn.proofs.Level.{IsGone, IsLevel, IsLevelAt, IsPlaced, alike, fits, now}
use Rattle.k_spawn.proofs.ReapStep.{ActsIn}
use Rattle.k_spawn.proofs.TwinEvents.{DoAlike, all_alike, waits_kernel}
use Rattle.k_spawn.proofs.TwinReplies.{ended_by, faults_same, reply_same}
use Rattle.k_spawn.proofs.Twins.{AreTwins, twin}
use Rattle.k_spawn.proofs.Running.{replies_append}

-- those who have ended behind an operation
ended_more : (op : Op) (p q : ℕ) (xs ys : List ℕ) → among q xs ≡ among q ys → among q (ended_by op p xs) ≡ among q (ended_by op p ys)
ended_more op p q xs ys same = elim (is_exit op) as (λ b. among q (cond b (xs ++ p ∷ []) xs) ≡ among q (cond b (ys ++ p ∷ []) ys)) [
  | true ↦ list_any-append (λ m. m == q) xs (p ∷ []) ∙ ap (λ b. b || among q (p ∷ [])) same ∙ sym (list_any-append (λ m. m == q) ys (p ∷ []))
  | false ↦ same
]

pub ended_is : (op : Op) (p q : ℕ) (xs : List ℕ) → among q (ended_by op p xs) ≡ (among q xs || ((p == q) && is_exit op))
ended_is op p q xs = elim (is_exit op) as (λ b. among q (cond b (xs ++ p ∷ []) xs) ≡ (among q xs || ((p == q) && b))) [
  | true ↦ list_any-append (λ m. m == q) xs (p ∷ []) ∙ ap (λ b. among q xs || b) (one (p == q))
  | false ↦ sym (none (among q xs) (p == q))
]
  where
    one : (b : Bool) → (b || false) ≡ (b && true)
    one true = refl
    one false = refl

    none : (b c : Bool) → (b || (c && false)) ≡ b
    none true c = refl
    none false true = refl
    none false false = refl

stays_ended : (op : Op) (p q : ℕ) (xs : List ℕ) → IsTrue (among q xs) → IsTrue (among q (ended_by op p xs))
stays_ended op p q xs t = ended_is op p q xs ∙ or_left _ _ t

-- the events of an operation of the first version set no maximum
pub fixed : (op : Op) → IsTrue (is_of_version 1 op) → is_resize op ≡ false
fixed (Resize m max) first = absurd (false≢true first)
fixed _ first = refl

absorb_fixed : (ss : List ℕ) → list_all (λ event. not (resizes event)) (map (λ s. AbsorbedEvent (record { 0 = s })) ss) ≡ true
absorb_fixed [] = refl
absorb_fixed (s ∷ ss) = absorb_fixed ss

all_append : (xs ys : List Event) → list_all (λ event. not (resizes event)) xs ≡ true → list_all (λ event. not (resizes event)) ys ≡ true → list_all (λ event. not (resizes event)) (xs ++ ys) ≡ true
all_append xs ys e f = list_all-append (λ event. not (resizes event)) xs ys ∙ and_from _ _ e f

absorb_said : (ss : List ℕ) → replies_in (map (λ s. AbsorbedEvent (record { 0 = s })) ss) ≡ []
absorb_said [] = refl
absorb_said (s ∷ ss) = absorb_said ss

module _ (trace : Trace) (st : State) (p : ℕ) (op : Op) where
  abbrev acted : State → List Event
  acted now = with_end trace now (Done (record { 0 = p }) op (reply_to trace now p op)) (heap_begun p op)

  acted_fixed : (now : State) (begun : Option Heap) → is_resize op ≡ false → list_all (λ event. not (resizes event)) (with_end trace now (Done (record { 0 = p }) op (reply_to trace now p op)) begun) ≡ true
  acted_fixed now None e = ap (λ b. not b && true) e
  acted_fixed now (Some h) e = ap (λ b. not b && true) e

  acted_said : (now : State) (begun : Option Heap) → replies_in (with_end trace now (Done (record { 0 = p }) op (reply_to trace now p op)) begun) ≡ reply_to trace now p op ∷ []
  acted_said now None = refl
  acted_said now (Some h) = refl

  abbrev opened : Bool → List Event
  opened b = cond b (absorptions trace st) []

  pub events_fixed : IsTrue (is_of_version 1 op) → (run trace st (events_of trace st p (Some op))).maxima ≡ st.maxima
  events_fixed first = run_maxima trace st (events_of trace st p (Some op)) (go (waits_for_orphans op))
    where
      go : (b : Bool) → list_all (λ event. not (resizes event)) (opened b ++ acted (run trace st (opened b))) ≡ true
      go true = all_append (absorptions trace st) _ (absorb_fixed (filter (is_orphan st) (numbers_below trace.shared_heaps))) (acted_fixed (run trace st (absorptions trace st)) (heap_begun p op) (fixed op first))
      go false = acted_fixed st (heap_begun p op) (fixed op first)

  kernel_said : (now : State) → reply_to trace now p KCollect ≡ DoneReply
  unfolding reply_to faults first_fault answer
  kernel_said now = refl

  -- an operation is answered once, as if it came at once
  pub events_said : replies_in (events_of trace st p (Some op)) ≡ reply_to trace st p op ∷ []
  events_said = go (waits_for_orphans op) refl
    where
      same : (now : State) → waits_for_orphans op ≡ true → reply_to trace now p op ≡ reply_to trace st p op
      same now e = ap (reply_to trace now p) (waits_kernel op e) ∙ kernel_said now ∙ sym (ap (reply_to trace st p) (waits_kernel op e) ∙ kernel_said st)

      go : (b : Bool) → waits_for_orphans op ≡ b → replies_in (opened b ++ acted (run trace st (opened b))) ≡ reply_to trace st p op ∷ []
      go true e =
          replies_append (absorptions trace st) (acted (run trace st (absorptions trace st)))
          ∙ ap₂ (λ xs ys. xs ++ ys) (absorb_said (filter (is_orphan st) (numbers_below trace.shared_heaps))) (acted_said (run trace st (absorptions trace st)) (heap_begun p op))
          ∙ ap (λ said. said ∷ []) (same (run trace st (absorptions trace st)) e)
      go false e = acted_said st (heap_begun p op)

module _ (s : Script) (placed : IsPlaced s) (t : Tree) (history : List Event) (level : IsLevel s t history) (p : ℕ) (acts : ActsIn s t p) (op : Op) (first : IsTrue (is_of_version 1 op)) where
  abbrev a : Trace
  a = (translation s).trace

  abbrev b : Trace
  b = trace_there s t.there

  abbrev x : State
  x = now s history

  abbrev events : List Event
  events = events_of a x p (Some op)

  both : DoAlike a b.limits x (twin x t.state.ended t.state.done) p op events (events_of b (twin x t.state.ended t.state.done) p (Some op))
  both = all_alike a b.limits x t.state.ended t.state.done p op first (alike s placed t history level)
      (faults_same a b.limits x t.state.ended t.state.done (alike s placed t history level) (fits s placed t history level) p op first)

  abbrev after : Tree
  after = record t { state = run b t.state (events_of b t.state p (Some op)) }

  after_is : after.state ≡ run b (twin x t.state.ended t.state.done) events
  after_is = ap (λ (z : State). run b z (events_of b z p (Some op))) level.twins ∙ ap (run b (twin x t.state.ended t.state.done)) both.same

  pub who : (run a x events).ended ≡ ended_by op p x.ended
  who = both.who

  pub who_there : after.state.ended ≡ ended_by op p t.state.ended
  who_there = ap (λ (z : State). z.ended) after_is ∙ both.who_other

  pub said_alike : reply_to b t.state p op ≡ reply_to a x p op
  said_alike = ap (λ z. reply_to b z p op) level.twins
      ∙ reply_same a b.limits x t.state.ended t.state.done (alike s placed t history level) p op
      (faults_same a b.limits x t.state.ended t.state.done (alike s placed t history level) (fits s placed t history level) p op first)

  -- both are level behind the operation
  pub done_level : IsLegalHistory a (history ++ events) → ((q : ℕ) → (q ≡ p → ⊥) → done_by q events ≡ []) → IsLevelAt s after (run a x events) (history ++ events)
  done_level legal quiet = record {
    legal = legal;
    twins = subst (AreTwins (run a x events)) (sym after_is) both.twins;
    header = λ q less. same q (level.header q less);
    present = λ c low high there. same c (level.present c low high there);
    absent = λ c low high away. gone c low away (level.absent c low high away);
  }
    where
      same : (q : ℕ) → among q t.state.ended ≡ among q x.ended → among q after.state.ended ≡ among q (run a x events).ended
      same q e = ap (among q) who_there ∙ ended_more op p q t.state.ended x.ended e ∙ sym (ap (among q) who)

      gone : (c : ℕ) → first_child s ≤ c → IsFalse (among c t.there) → IsGone s t x history c → IsGone s after (run a x events) (history ++ events) c
      gone c low away is = record { maximum = ap (λ ms. get_or ms (limit_for s c) 0) (events_fixed a x p op first) ∙ is.maximum; over = go is.over }
        where
          apart : c ≡ p → ⊥
          apart same = false≢true (sym away ∙ ap (λ k. among k t.there) same ∙ acts (subst (λ k. first_child s ≤ k) same low))

          go : (IsTrue (among c x.ended) × IsTrue (among c t.state.ended)) ⊎ (done_by c history ≡ []) → (IsTrue (among c (run a x events).ended) × IsTrue (among c after.state.ended)) ⊎ (done_by c (history ++ events) ≡ [])
          go (inl both) = inl (ap (among c) who ∙ stays_ended op p c x.ended both.0, ap (among c) who_there ∙ stays_ended op p c t.state.ended both.1)
          go (inr none) = inr (done_append c history events ∙ ap₂ (λ xs ys. xs ++ ys) none (quiet c apart))
