-- A shared heap that a process makes its own to populate.
use Rattle.std.proofs.Common.{◌≡◌, ◌==◌, ◌&&◌, ◌||◌, refl, sym, ap, ap₂, subst, ◌∙◌, List, slice_set, IsTrue, IsFalse}
use Rattle.k_types.specs.declared.event.Fault.TheVariants.{Taken}
use Rattle.k_types.specs.declared.event.Reply.TheVariants.{Done, Refused}
use Rattle.k_types.specs.declared.names.Heap.TheVariants.{Shared}
use Rattle.k_types.specs.declared.names.Phase.{Phase}
use Rattle.k_types.specs.declared.names.Phase.TheVariants.{Populating}
use Rattle.k_types.specs.declared.names.Pid.{Pid}
use Rattle.k_types.specs.declared.names.SharedId.{SharedId}
use Rattle.k_types.specs.declared.op.Op.{Op}
use Rattle.k_types.specs.declared.op.Op.TheVariants.{Share}
use Rattle.k_types.specs.Agree.{BookValue, book_shown_by}
use Rattle.k_types.specs.Cells.{BookPart}
use Rattle.k_types.specs.Owners.{is_absorbed, phase_of}
use Rattle.k_types.specs.Replies.{is_unmade}
use Rattle.k_types.specs.State.{Sharing, has_share}
use Rattle.k_types.specs.Trace.{Trace}
use Rattle.k_laws.proofs.SoundEffects.{is_unmade_so}
use Rattle.k_laws.specs.BookChanges.{with_phase as book_with_phase, with_share}
use Rattle.k_laws.specs.CellChanges.{in_phase}
use Rattle.k_laws.specs.PartUpdates.{with_done}
use Rattle.k_commit.specs.k_agree.Moves.{GivesBoth}
use Rattle.k_commit.specs.k_agree.Shown.{idle_part}
use Rattle.k_commit.proofs.Idle.{owners_by_absorbed}
use Rattle.k_shares.specs.Sharers.{GainsShare, bytes_in_phase}
use Rattle.k_commit.specs.k_book.Books.{BookRecord}
use Rattle.k_commit.specs.k_book.Calls.{ChangesShares}
use Rattle.k_commit.proofs.OnPart.{shared_on}
use Rattle.k_commit.specs.k_heap.Heaps.{HeapRecord}
use Rattle.k_commit.specs.k_shared.SharedHeaps.{SharedRecord, with_phase}
use Rattle.k_laws.proofs.SoundShare.{absorbed_kept}
use Rattle.k_commit.specs.Changed.{HasChangedWith}
use Rattle.k_commit.specs.Met.{BeforeWith}
use Rattle.k_commit.specs.Others.{of_shared, with_value}
use Rattle.k_pair.specs.Operating.{HaveMetFor}
use Rattle.k_pair.proofs.Changing.{commits, idle, other_idle, other_settled, refused, settled, with_same}
use Rattle.k_pair.proofs.Facts.{unmade_unshared}
use Rattle.k_pair.proofs.Given.{share_refused, shared}
use Rattle.k_pair.proofs.Touching.{share_names}

module _ (before : BeforeWith) (c : HeapRecord) (s : SharedRecord) (b : BookRecord) (id : SharedId) (met : HaveMetFor before c (of_shared s) b (Share id)) where
  abbrev trace : Trace
  trace = before.own.trace

  abbrev op : Op
  op = Share id

  pub share_taken : IsFalse (is_unmade (phase_of b.value.phases id.0)) → HasChangedWith before c (of_shared s) b op (Refused (Taken id))
  share_taken taken =
      refused before c (of_shared s) b op met (Taken id) c.bodies refl refl refl (share_refused trace (book_shown_by b.value) (idle_part c.value) (idle_part s.value) c.pid id taken)

  module _ (unmade : IsTrue (is_unmade (phase_of b.value.phases id.0))) where
    abbrev phase : Phase
    phase = Populating c.pid

    pub share_is_new : IsFalse (has_share b.value.shares c.pid.0 id.0)
    share_is_new = unmade_unshared trace b met.have_met.own.book c.pid.0 id.0 unmade

    abbrev phased : Pid → BookRecord
    phased p = record b { value = record b.value { phases = slice_set b.value.phases id.0 (Populating p); shared_bytes = bytes_in_phase b.value.shared_bytes id.0 (Populating p) } }

    module _ (k : BookRecord) (gains : GainsShare b.value.shares k.value.shares c.pid.0 id.0) (rest : ChangesShares (phased c.pid) k) where
      abbrev book_value : BookValue
      book_value = record (phased c.pid).value { shares = k.value.shares }

      book_shown : book_shown_by book_value ≡ with_share c.pid.0 id.0 (book_with_phase id.0 phase (book_shown_by b.value))
      book_shown = ap (λ (e : BookRecord). book_shown_by e.value) (sym rest) ∙ shared_on (phased c.pid) k c.pid.0 id.0 gains rest

      gives : GivesBoth trace c.pid op Done (Shared s.id) (idle_part c.value) (with_done (idle_part c.value)) (idle_part s.value) (idle_part (with_phase phase s.value))
          (book_shown_by b.value) (book_shown_by book_value)
      gives =
          with_same trace c s b op Done c.value (with_phase phase s.value) (book_shown_by book_value) id (share_names trace c b id s.id met.touches)
          (subst (λ (e : BookPart). GivesBoth trace c.pid op Done (Shared id) (idle_part c.value) (with_done (idle_part c.value)) (idle_part s.value) (in_phase phase (idle_part s.value)) (book_shown_by b.value) e)
          (sym book_shown) (shared trace (book_shown_by b.value) (idle_part c.value) (idle_part s.value) c.pid id unmade))

      share_changes : HasChangedWith before c (with_value (with_phase phase s.value) (of_shared s)) k op Done
      share_changes =
          subst (λ (e : BookRecord). HasChangedWith before c (with_value (with_phase phase s.value) (of_shared s)) e op Done) (sym rest)
          (commits before c (of_shared s) b op met Done c.value c.bodies (with_phase phase s.value) book_value refl refl
          (settled before c (of_shared s) b op met) (idle before c (of_shared s) b op met) (other_settled before c (of_shared s) b op met) (other_idle before c (of_shared s) b op met)
          (owners_by_absorbed trace b.value book_value refl refl
          (absorbed_kept b.value.phases id.0 phase (sym (ap is_absorbed (is_unmade_so (phase_of b.value.phases id.0) unmade))))) gives)

    -- the same with the process as it was read, and the book as it was in between
    pub share_done : (p : Pid) → p ≡ c.pid → (t k : BookRecord) → t ≡ phased p → GainsShare t.value.shares k.value.shares p.0 id.0 → ChangesShares t k →
        HasChangedWith before c (with_value (with_phase (Populating p) s.value) (of_shared s)) k op Done
    share_done p same t k at gains rest =
        subst (λ (q : Pid). HasChangedWith before c (with_value (with_phase (Populating q) s.value) (of_shared s)) k op Done) (sym same)
        (share_changes k
        (λ q u. gains q u ∙ ap₂ (λ (shares : List Sharing) (r : Pid). has_share shares q u || ((r.0 == q) && (id.0 == u))) (ap (λ (e : BookRecord). e.value.shares) at) same)
        (rest ∙ ap (λ (e : BookRecord). record e { value = record e.value { shares = k.value.shares } }) (at ∙ ap phased same)))
