-- A shared heap that its maker freezes.
use Rattle.std.proofs.Common.{◌≡◌, ◌<◌, refl, sym, ap, subst, ◌∙◌, length, Some, None, slice_set, IsTrue, IsFalse}
use Rattle.k_types.specs.declared.event.Fault.TheVariants.{NotPopulating, Null, Segv}
use Rattle.k_types.specs.declared.event.Reply.TheVariants.{Done, Refused}
use Rattle.k_types.specs.declared.names.Heap.{Heap}
use Rattle.k_types.specs.declared.names.Heap.TheVariants.{Shared}
use Rattle.k_types.specs.declared.names.Name.{Name}
use Rattle.k_types.specs.declared.names.Phase.{Phase}
use Rattle.k_types.specs.declared.names.Phase.TheVariants.{Frozen}
use Rattle.k_types.specs.declared.names.Reg.{Reg}
use Rattle.k_types.specs.declared.names.SharedId.{SharedId}
use Rattle.k_types.specs.declared.op.Op.{Op}
use Rattle.k_types.specs.declared.op.Op.TheVariants.{Freeze}
use Rattle.k_types.specs.Agree.{BookValue, book_shown_by}
use Rattle.k_types.specs.Names.{heap_eq}
use Rattle.k_types.specs.Owners.{is_absorbed, phase_of}
use Rattle.k_types.specs.Replies.{is_populating}
use Rattle.k_types.specs.Trace.{Trace, segment_count}
use Rattle.k_laws.specs.BookChanges.{owner_in}
use Rattle.k_entry.specs.Entries.{home_of}
use Rattle.k_laws.specs.PartUpdates.{held_in, with_done}
use Rattle.k_commit.specs.k_agree.Moves.{GivesBoth}
use Rattle.k_commit.specs.k_agree.Shown.{idle_part}
use Rattle.k_commit.proofs.Idle.{owners_by_absorbed}
use Rattle.k_laws.proofs.CellSquares.{populating_phase}
use Rattle.k_commit.specs.k_book.Books.{BookRecord}
use Rattle.k_commit.specs.k_heap.Heaps.{HeapRecord}
use Rattle.k_commit.specs.k_shared.SharedHeaps.{SharedRecord, with_phase}
use Rattle.k_shares.specs.Sharers.{bytes_in_phase}
use Rattle.k_laws.proofs.SoundShare.{absorbed_kept}
use Rattle.k_commit.specs.Changed.{HasChangedWith}
use Rattle.k_commit.specs.Met.{Before, BeforeWith}
use Rattle.k_commit.specs.Others.{of_shared, with_value}
use Rattle.k_commit.proofs.Placed.{held_is_placed, home_is_owner, homes_count}
use Rattle.k_pair.specs.Operating.{HaveMetFor, as_they_are}
use Rattle.k_pair.proofs.Changing.{commits, idle, other_idle, other_settled, refused, settled, with_same}
use Rattle.k_pair.proofs.Given.{freeze_elsewhere, freeze_null, freeze_unpopulated, frozen}
use Rattle.k_pair.proofs.Touching.{freeze_names}

module _ (before : BeforeWith) (c : HeapRecord) (s : SharedRecord) (b : BookRecord) (id : SharedId) (root : Reg) (met : HaveMetFor before c (of_shared s) b (Freeze id root)) where
  abbrev trace : Trace
  trace = before.own.trace

  abbrev op : Op
  op = Freeze id root

  abbrev here : Before
  here = (as_they_are trace c (of_shared s) b).own

  pub freeze_of_null : held_in c.value.process root.0 ≡ None → HasChangedWith before c (of_shared s) b op (Refused Null)
  freeze_of_null null =
      refused before c (of_shared s) b op met Null c.bodies refl refl refl (freeze_null trace (book_shown_by b.value) (idle_part c.value) (idle_part s.value) c.pid id root null)

  module _ (x : Name) (at_x : held_in c.value.process root.0 ≡ Some x) where
    placed : x.seg.0 < segment_count trace
    placed = held_is_placed here met.have_met.own root.0 x at_x

    pub root_at_home : x.seg.0 < length b.value.homes
    root_at_home = subst (λ m. x.seg.0 < m) (sym (homes_count here met.have_met.own)) placed

    owner_is : heap_eq (home_of b.value.homes x.seg.0) (Shared id) ≡ heap_eq (owner_in trace (book_shown_by b.value) x.seg.0) (Shared id)
    owner_is = ap (λ (h : Heap). heap_eq h (Shared id)) (home_is_owner here met.have_met.own x.seg.0 placed)

    pub freeze_of_other : IsFalse (heap_eq (home_of b.value.homes x.seg.0) (Shared id)) → HasChangedWith before c (of_shared s) b op (Refused Segv)
    freeze_of_other other =
        refused before c (of_shared s) b op met Segv c.bodies refl refl refl
        (freeze_elsewhere trace (book_shown_by b.value) (idle_part c.value) (idle_part s.value) c.pid id root x at_x (sym owner_is ∙ other))

    module _ (ours : IsTrue (heap_eq (home_of b.value.homes x.seg.0) (Shared id))) where
      pub freeze_by_other : IsFalse (is_populating (phase_of b.value.phases id.0) c.pid.0) → HasChangedWith before c (of_shared s) b op (Refused (NotPopulating id))
      freeze_by_other other =
          refused before c (of_shared s) b op met (NotPopulating id) c.bodies refl refl refl
          (freeze_unpopulated trace (book_shown_by b.value) (idle_part c.value) (idle_part s.value) c.pid id root x at_x (sym owner_is ∙ ours) other)

      module _ (populates : IsTrue (is_populating (phase_of b.value.phases id.0) c.pid.0)) where
        abbrev phase : Phase
        phase = Frozen x

        abbrev book_value : BookValue
        book_value = record b.value { phases = slice_set b.value.phases id.0 phase; shared_bytes = bytes_in_phase b.value.shared_bytes id.0 phase }

        gives : GivesBoth trace c.pid op Done (Shared s.id) (idle_part c.value) (with_done (idle_part c.value)) (idle_part s.value) (idle_part (with_phase phase s.value))
            (book_shown_by b.value) (book_shown_by book_value)
        gives =
            with_same trace c s b op Done c.value (with_phase phase s.value) (book_shown_by book_value) id (freeze_names trace c b id s.id root met.touches)
            (frozen trace (book_shown_by b.value) (idle_part c.value) (idle_part s.value) c.pid id root x at_x (sym owner_is ∙ ours) populates)

        pub freeze_done : HasChangedWith before c (with_value (with_phase phase s.value) (of_shared s)) (record b { value = book_value }) op Done
        freeze_done =
            commits before c (of_shared s) b op met Done c.value c.bodies (with_phase phase s.value) book_value refl refl
            (settled before c (of_shared s) b op met) (idle before c (of_shared s) b op met) (other_settled before c (of_shared s) b op met) (other_idle before c (of_shared s) b op met)
            (owners_by_absorbed trace b.value book_value refl refl
            (absorbed_kept b.value.phases id.0 phase (sym (ap is_absorbed (populating_phase (phase_of b.value.phases id.0) c.pid.0 populates))))) gives
