-- What cells and book that have met tell of shared heaps.
use Rattle.std.proofs.Common.{◌≡◌, ◌<◌, ℕ, sym, ap, subst, ◌∙◌, cond, List, length, slice_index_or, Some, None, IsTrue, IsFalse}
use Rattle.std.proofs.lemmas.Bool.{false≢true, false_from_ne_true}
use Rattle.k_types.specs.declared.names.Heap.TheVariants.{Shared}
use Rattle.k_types.specs.declared.names.Name.{Name}
use Rattle.k_types.specs.declared.names.Phase.{Phase}
use Rattle.k_types.specs.declared.names.Phase.TheVariants.{Frozen, Unmade}
use Rattle.k_types.specs.Cells.{BookPart, ShownPart, book_part, part}
use Rattle.k_types.specs.Owners.{is_absorbed, owner_of, phase_of}
use Rattle.k_types.specs.Replies.{is_populating, is_unmade}
use Rattle.k_types.specs.Sound.{IsSound}
use Rattle.k_types.specs.State.{State, has_share}
use Rattle.k_types.specs.Steps.{has_sharer, state_after}
use Rattle.k_types.specs.Trace.{Trace, segment_count}
use Rattle.k_types.proofs.NameTests.{heap_eq-same}
use Rattle.k_laws.proofs.OwnerOf.{owner_shared}
use Rattle.k_laws.proofs.SoundEffects.{is_unmade_so}
use Rattle.k_laws.proofs.SoundSteps.{legal_sound}
use Rattle.k_commit.specs.k_book.Books.{BookRecord}
use Rattle.k_laws.proofs.CellSquares.{populating_phase}
use Rattle.k_commit.specs.k_heap.Heaps.{HeapRecord}
use Rattle.k_commit.specs.k_shared.SharedHeaps.{SharedRecord}
use Rattle.k_commit.specs.Met.{HaveMetWith}
use Rattle.k_commit.specs.Others.{of_shared}
use Rattle.k_commit.specs.Standing.{BookStands}
use Rattle.k_types.proofs.Shares.{sharer_of}
use Rattle.k_pair.specs.Operating.{as_they_are}

module _ (trace : Trace) (b : BookRecord) (stands : BookStands trace b) where
  abbrev now : State
  now = state_after trace b.journal.list

  sound : IsSound trace now
  sound = legal_sound trace b.journal.list stands.keeps.limits stands.agrees.legal

  phases_are : b.value.phases ≡ now.phases
  unfolding book_part
  phases_are = ap (λ (k : BookPart). k.phases) stands.agrees.shows.part

  shares_are : (p s : ℕ) → has_share b.value.shares p s ≡ has_share now.shares p s
  unfolding book_part
  shares_are p s = ap (λ (k : BookPart). k.shares p s) stands.agrees.shows.part

  pub phase_there : (s : ℕ) → s < trace.shared_heaps → s < length b.value.phases
  phase_there s known = subst (λ n. s < n) (sym (ap length phases_are ∙ sound.shape.sized.phases)) known

  -- nobody shares an unmade heap
  pub unmade_unshared : (p s : ℕ) → IsTrue (is_unmade (phase_of b.value.phases s)) → IsFalse (has_share b.value.shares p s)
  unmade_unshared p s unmade =
      let is : phase_of now.phases s ≡ Unmade = is_unmade_so (phase_of now.phases s) (ap (λ (phases : List Phase). is_unmade (phase_of phases s)) (sym phases_are) ∙ unmade) in
      let none : IsFalse (has_sharer now.shares s) = sound.phases.unmade_shares s is in
      false_from_ne_true _ (λ shared. false≢true (sym none ∙ sharer_of now.shares p s (sym (shares_are p s) ∙ shared)))

  -- the root of a frozen heap lies in a segment of the trace
  pub root_is_placed : (s : ℕ) (root : Name) → phase_of b.value.phases s ≡ Frozen root → root.seg.0 < segment_count trace
  root_is_placed s root frozen =
      (sound.shape.placed root (sound.no_dangling.frozen s root (ap (λ (phases : List Phase). phase_of phases s) (sym phases_are) ∙ frozen))).1

-- a heap that is populated owns the segment with which it begins
module _ (trace : Trace) (c : HeapRecord) (s : SharedRecord) (b : BookRecord) (met : HaveMetWith (as_they_are trace c (of_shared s) b)) (p : ℕ)
    (populates : IsTrue (is_populating (phase_of b.value.phases s.id.0) p)) where
  abbrev here : State
  here = state_after trace b.journal.list

  absorbed_not : IsFalse (is_absorbed (phase_of here.phases s.id.0))
  absorbed_not =
      ap (λ (phases : List Phase). is_absorbed (phase_of phases s.id.0)) (sym (phases_are trace b met.own.book))
      ∙ ap is_absorbed (populating_phase (phase_of b.value.phases s.id.0) p populates)

  owner_is : owner_of trace here s.seg.0 ≡ Shared s.id
  owner_is = ap (owner_of trace here) met.other.segment ∙ owner_shared trace here s.id.0 absorbed_not

  pub populated_segment : slice_index_or s.value.made s.seg.0 None ≡ Some (slice_index_or here.made s.seg.0 0)
  unfolding part
  populated_segment =
      ap (λ (shown : ShownPart). shown.made s.seg.0) met.after.shows.part
      ∙ ap (λ t. cond t (Some (slice_index_or here.made s.seg.0 0)) None)
      (heap_eq-same (owner_of trace here s.seg.0) (Shared s.id) owner_is)
