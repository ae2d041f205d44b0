-- A shared heap that nobody shares, as its cell, the kernel's and the book show it before it is absorbed.
use Rattle.std.proofs.Common.{◌≡◌, ℕ, ◌+◌, ◌<◌, ◌^◌, ◌==◌, ◌&&◌, not, true, false, refl, sym, ap, ◌∙◌, subst, List, length, arith, eq-eqb, ne_eqb, is_some}
use Rattle.std.proofs.lemmas.Bool.{and_parts, false≢true}
use Rattle.k_types.specs.declared.event.Event.TheVariants.{Absorbed}
use Rattle.k_types.specs.declared.names.Heap.{Heap}
use Rattle.k_types.specs.declared.names.Heap.TheVariants.{Kernel, Shared, User}
use Rattle.k_types.specs.declared.names.Name.{Name}
use Rattle.k_types.specs.declared.names.Phase.{Phase}
use Rattle.k_types.specs.declared.names.Phase.TheVariants.{Unmade, Populating, Frozen, Absorbed as AbsorbedPhase}
use Rattle.k_types.specs.Cells.{BookPart, book_part}
use Rattle.k_types.specs.Names.{heap_eq}
use Rattle.k_types.specs.Owners.{is_absorbed, object_bytes, owner_of, phase_of}
use Rattle.k_types.specs.Sound.{IsSound}
use Rattle.k_types.specs.State.{State, has_share}
use Rattle.k_types.specs.Steps.{IsPossible, has_sharer, is_live, is_orphan, state_after}
use Rattle.k_types.specs.Totals.{total}
use Rattle.k_types.specs.Trace.{Trace, segment_count}
use Rattle.k_laws.proofs.SoundSteps.{legal_sound}
use Rattle.k_agree.specs.Agreement.{BookShows, Shows}
use Rattle.k_agree.specs.Ending.{HasLeft}
use Rattle.k_agree.proofs.HeldOnTheBook.{cut_there, left_there}
use Rattle.k_commit.specs.k_book.Books.{BookRecord}
use Rattle.k_commit.specs.k_cell.Holdings.{HoldingsValue}
use Rattle.k_commit.proofs.Idle.{not_open}
use Rattle.k_commit.specs.k_shared.SharedHeaps.{SharedRecord, holdings_of}
use Rattle.k_own.specs.Absorbing.{HaveMetToAbsorb}
use Rattle.k_own.specs.Exits.{AreEntered, into_segment}
use Rattle.k_own.specs.Segments.{CanGive}
use Rattle.k_own.proofs.HeapTold.{cell_bytes, home_count, led_by_segment, other_made, owned_made, shared_numbered}
use Rattle.k_own.proofs.Weighed.{objects_weigh}
use Rattle.k_types.proofs.Shares.{sharers_same}

live_stands : (phase : Phase) → is_live phase ≡ true → is_absorbed phase ≡ false
live_stands Unmade t = refl
live_stands (Populating p) t = refl
live_stands (Frozen root) t = refl
live_stands AbsorbedPhase t = absurd (false≢true t)

module _ (trace : Trace) (s : SharedRecord) (k : HoldingsValue) (b : BookRecord) (met : HaveMetToAbsorb trace s k b) where
  abbrev pub now : State
  now = state_after trace b.journal.list

  pub sound : IsSound trace now
  sound = legal_sound trace b.journal.list met.book_stands.keeps.limits met.book_stands.agrees.legal

  pub shows : Shows trace now (Shared s.id) s.value
  shows = met.after.shows

  pub kernel_shows : Shows trace now Kernel k.value
  kernel_shows = met.kernel_after.shows

  pub booked : BookShows trace now b.value
  booked = met.book_stands.agrees.shows

  pub known : s.id.0 < trace.shared_heaps
  known = met.after.met.there

  phases_are : b.value.phases ≡ now.phases
  unfolding book_part
  phases_are = ap (λ (x : BookPart). x.phases) booked.part

  shares_are : (p t : ℕ) → has_share b.value.shares p t ≡ has_share now.shares p t
  unfolding book_part
  shares_are p t = ap (λ (x : BookPart). x.shares p t) booked.part

  orphan : is_orphan now s.id.0 ≡ true
  orphan =
      ap (λ phases. is_live (phase_of phases s.id.0) && not (has_sharer now.shares s.id.0)) (sym phases_are)
      ∙ ap (λ t. is_live (phase_of b.value.phases s.id.0) && not t) (sym (sharers_same b.value.shares now.shares shares_are s.id.0))
      ∙ met.orphan

  live : is_live (phase_of now.phases s.id.0) ≡ true
  live = (and_parts (is_live (phase_of now.phases s.id.0)) (not (has_sharer now.shares s.id.0)) orphan).0

  pub possible : IsPossible trace now (Absorbed s.id)
  possible = record {
    known = known;
    orphan = orphan;
    idle = ap is_some (not_open trace now Kernel k.value (record { shows = kernel_shows; idle = met.kernel_stands.idle }));
  }

  pub numbered : (j : ℕ) → heap_eq (owner_of trace now j) (Shared s.id) ≡ (j == s.seg.0)
  numbered j = shared_numbered trace now s.id.0 (live_stands (phase_of now.phases s.id.0) live) j ∙ ap (λ m. j == m) (sym met.shared_stands.segment)

  -- the exit items are entered
  pub heap_entered : AreEntered s.value.exits b.value
  heap_entered n t = left_there trace now (Shared s.id) s.value b.value n booked shows t

  pub kernel_entered : (drained : BookRecord) → HasLeft s.value.exits b.value drained.value → AreEntered (into_segment s.seg.0 k.value.exits) drained.value
  kernel_entered drained left n t =
      cut_there trace now (Shared s.id) s.value k.value b.value drained.value n sound booked shows kernel_shows left
      (led_by_segment (owner_of trace now) (Shared s.id) s.seg.0 k.value numbered n ∙ t)

  inside : s.seg.0 < segment_count trace
  inside = let same = met.shared_stands.segment in omega (arith, same, known)

  owned : heap_eq (owner_of trace now s.seg.0) (Shared s.id) ≡ true
  owned = numbered s.seg.0 ∙ eq-eqb s.seg.0 s.seg.0 refl

  not_kernels : heap_eq (owner_of trace now s.seg.0) Kernel ≡ false
  not_kernels = not_kernel (owner_of trace now s.seg.0) owned
    where
      not_kernel : (h : Heap) → heap_eq h (Shared s.id) ≡ true → heap_eq h Kernel ≡ false
      not_kernel Kernel t = absurd (false≢true t)
      not_kernel (User p) t = absurd (false≢true t)
      not_kernel (Shared u) t = refl

  bytes : total object_bytes s.value.objects + total object_bytes k.value.objects < 2 ^ 64
  bytes =
      let own = cell_bytes trace now (Shared s.id) s.value shows in
      let kernels = cell_bytes trace now Kernel k.value kernel_shows in
      let all = objects_weigh trace b.journal.list met.book_stands.keeps met.book_stands.agrees.legal in
      let room = met.events in
      let few = met.few in
      omega (arith, own, kernels, all, room, few)

  -- whatever exit items there are, the segment can be given
  pub can_give : (xs ys zs us : List Name) →
      CanGive s.seg.0 (holdings_of (record s { value = record s.value { exits = xs; black_exits = ys } })) (record k { value = record k.value { exits = zs; black_exits = us } })
  can_give xs ys zs us = record {
    there = owned_made trace now (Shared s.id) s.value shows s.seg.0 owned;
    alone = λ j other. other_made trace now (Shared s.id) s.value shows j (numbered j ∙ ne_eqb j s.seg.0 other);
    new = other_made trace now Kernel k.value kernel_shows s.seg.0 not_kernels;
    number = let numbers = met.numbers in omega (arith, numbers, inside);
    idle = met.shared_stands.idle;
    kernel_idle = met.kernel_stands.idle;
    bytes = bytes;
  }

  pub phase_there : s.id.0 < length b.value.phases
  phase_there = subst (λ (phases : List Phase). s.id.0 < length phases) (sym phases_are) (let sized = sound.shape.sized.phases in omega (arith, sized, known))

  pub home_there : s.seg.0 < length b.value.homes
  home_there = let count = home_count trace now b.value booked in omega (arith, count, inside)
