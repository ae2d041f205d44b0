-- What a refused operation leaves, what waits for orphans, and what touches a heap whose collection is open.
use Rattle.std.proofs.Common.{◌≡◌, ℕ, ◌<◌, ◌&&◌, ◌||◌, not, Bool, true, false, refl, sym, ap, ◌∙◌, inl, inr, List, [], ◌∷◌, Option, Some, None, is_some, IsTrue}
use Rattle.std.specs.List.{list_all, list_any}
use Rattle.std.proofs.lemmas.Bool.{and_parts, or_cases, false≢true, not-true}
use Rattle.k_types.specs.declared.names.Heap.{Heap}
use Rattle.k_types.specs.declared.names.Heap.TheVariants.{Kernel, Shared}
use Rattle.k_types.specs.declared.names.Phase.{Phase}
use Rattle.k_types.specs.declared.names.Phase.TheVariants.{Unmade, Populating, Frozen, Absorbed}
use Rattle.k_types.specs.declared.op.Op.{Op}
use Rattle.k_types.specs.declared.event.Event.{Event}
use Rattle.k_types.specs.declared.event.Event.TheVariants.{Done, Ended, Absorbed as AbsorbedEvent, Closing}
use Rattle.k_types.specs.declared.event.Fault.{Fault}
use Rattle.k_types.specs.declared.event.Reply.TheVariants.{Refused}
use Rattle.k_types.specs.Names.{heap_eq}
use Rattle.k_types.specs.Trace.{Trace}
use Rattle.k_types.specs.State.{State, Scan, is_scanned}
use Rattle.k_types.specs.Owners.{phase_of}
use Rattle.k_types.specs.Replies.{answer, faults, first_fault, refused_or, reply_to}
use Rattle.k_types.specs.Updates.{count_done}
use Rattle.k_types.specs.Effects.{after_operation, effect_unless}
use Rattle.k_types.specs.Cells.{cells_touched, touches}
use Rattle.k_types.specs.Steps.{IsPossible, has_sharer, is_live, is_orphan, no_orphan}
use Rattle.k_types.specs.Sound.{IsSound}
use Rattle.k_types.proofs.NameTests.{heap_eq-true}
use Rattle.k_types.proofs.Numbered.{all_at_below}
use Rattle.k_laws.specs.Kept.{HasEndOf, IsPaidFor}
use Rattle.k_types.proofs.Shares.{sharer_from}
use Rattle.k_laws.proofs.Answers.{no_refusal}

pub refused_counts : (trace : Trace) (st : State) (p : ℕ) (op : Op) (fault : Fault) → reply_to trace st p op ≡ Refused fault → after_operation trace p op st ≡ count_done p st
unfolding reply_to after_operation
refused_counts trace st p op fault e = go (first_fault (faults trace st p op)) e
  where
    go : (f : Option Fault) → refused_or f (answer trace st p op) ≡ Refused fault → count_done p (effect_unless f trace p op st) ≡ count_done p st
    go None e = absurd (no_refusal trace st p op fault e)
    go (Some f) e = refl

twice : (b : Bool) → IsTrue (not (not b)) → IsTrue b
twice true t = refl
twice false t = absurd (false≢true t)

pub no_orphan_paid : (trace : Trace) (st : State) (s : ℕ) → IsTrue (no_orphan trace st) → s < trace.shared_heaps → IsPaidFor st s
no_orphan_paid trace st s none inside = go (phase_of st.phases s) refl (all_at_below (λ s. not (is_orphan st s)) trace.shared_heaps s none inside)
  where
    go : (phase : Phase) → phase_of st.phases s ≡ phase → IsTrue (not (is_live phase && not (has_sharer st.shares s))) → IsPaidFor st s
    go Unmade e t = inl e
    go (Populating q) e t = inr (inr (sharer_from st.shares s (twice _ t)))
    go (Frozen root) e t = inr (inr (sharer_from st.shares s (twice _ t)))
    go Absorbed e t = inr (inl e)

idle_where : (scans : List Scan) (cells : List Heap) (h : Heap) → IsTrue (list_all (λ c. not (is_scanned scans c)) cells) → IsTrue (list_any (λ c. heap_eq c h) cells) → IsTrue (is_scanned scans h) → ⊥
idle_where scans [] h idle meets scanned = false≢true meets
idle_where scans (c ∷ cells) h idle meets scanned =
    let parts = and_parts (not (is_scanned scans c)) (list_all (λ c. not (is_scanned scans c)) cells) idle in
    elim (or_cases (heap_eq c h) (list_any (λ c. heap_eq c h) cells) meets) [
      | inl here ↦ false≢true (sym (not-true _ parts.0) ∙ ap (is_scanned scans) (heap_eq-true c h here) ∙ scanned)
      | inr there ↦ idle_where scans cells h parts.1 there scanned
    ]

pub left_alone : (trace : Trace) (st : State) (event : Event) (h : Heap) → IsSound trace st → IsPossible trace st event → IsTrue (is_scanned st.scans h) → IsTrue (touches trace st event h) → HasEndOf h event
unfolding cells_touched
left_alone trace st (Done pid op said) h sound may scanned meets = absurd (idle_where st.scans (cells_touched trace st (Done pid op said)) h may.idle meets scanned)
left_alone trace st (Ended g a b c d) h sound may scanned meets =
    elim (or_cases (heap_eq g h) false meets) [
      | inl same ↦ (a, b, c, d, ap (λ k. Ended k a b c d) (heap_eq-true g h same))
      | inr never ↦ absurd (false≢true never)
    ]
left_alone trace st (AbsorbedEvent s) h sound may scanned meets =
    elim (or_cases (heap_eq (Shared s) h) (heap_eq Kernel h || false) meets) [
      | inl same ↦ absurd (false≢true (sym (ap is_some (sound.scans.none_shared s.0)) ∙ ap (is_scanned st.scans) (heap_eq-true (Shared s) h same) ∙ scanned))
      | inr rest ↦
          elim (or_cases (heap_eq Kernel h) false rest) [
            | inl same ↦ absurd (false≢true (sym may.idle ∙ ap (is_scanned st.scans) (heap_eq-true Kernel h same) ∙ scanned))
            | inr never ↦ absurd (false≢true never)
          ]
    ]
left_alone trace st Closing h sound may scanned meets =
    elim (or_cases (heap_eq Kernel h) false meets) [
      | inl same ↦ absurd (false≢true (sym may.idle ∙ ap (is_scanned st.scans) (heap_eq-true Kernel h same) ∙ scanned))
      | inr never ↦ absurd (false≢true never)
    ]
