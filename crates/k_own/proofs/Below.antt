-- A kill that ends nobody, and another maximum of a limit.
use Rattle.std.proofs.Common.{◌≡◌, ◌<◌, ◌&&◌, ℕ, not, nat_lt, Bool, true, false, cond, refl, sym, ap, subst, ◌∙◌, [], ◌∷◌, length}
use Rattle.std.proofs.lemmas.Bool.{and_parts, false≢true, ltb-true}
use Rattle.k_types.specs.declared.event.Fault.TheVariants.{ProcNotBelow}
use Rattle.k_types.specs.declared.event.Reply.{Reply}
use Rattle.k_types.specs.declared.event.Reply.TheVariants.{Done as DoneReply, Refused}
use Rattle.k_types.specs.declared.names.Heap.TheVariants.{Kernel, User}
use Rattle.k_types.specs.declared.names.LimitId.{LimitId}
use Rattle.k_types.specs.declared.names.Pid.{Pid}
use Rattle.k_types.specs.declared.op.Op.TheVariants.{Kill, Resize}
use Rattle.k_types.specs.Agree.{BookValue, book_shown_by}
use Rattle.k_types.specs.Bounds.{maximum_below}
use Rattle.k_types.specs.Limits.{is_above}
use Rattle.k_types.specs.Steps.{in_range}
use Rattle.k_types.specs.Trace.{process_count}
use Rattle.k_commit.specs.k_book.Books.{BookRecord}
use Rattle.k_commit.specs.k_book.Machine.{IsBookOf}
use Rattle.k_laws.specs.BookChanges.{owner_in}
use Rattle.k_laws.specs.PartUpdates.{with_done}
use Rattle.k_commit.specs.k_heap.Heaps.{HeapRecord}
use Rattle.k_commit.specs.k_agree.Moves.{GivesAlone}
use Rattle.k_commit.specs.k_agree.Shown.{idle_part, part_alone}
use Rattle.k_commit.proofs.Killing.{kill_idle, kill_refused, resize_alone}
use Rattle.k_laws.specs.Touches.{ends_other_in, other_cells_in}
use Rattle.k_commit.specs.Changed.{HasChanged}
use Rattle.k_commit.specs.Met.{Before}
use Rattle.k_commit.specs.Resizing.{CanResize, HasResized}
use Rattle.k_commit.specs.Standing.{BookStands}
use Rattle.k_commit.proofs.Changing.{values_changed}
use Rattle.k_commit.proofs.Setting.{process_known}
use Rattle.k_own.specs.Own.{IsDue}
use Rattle.k_own.proofs.Away.{kept_changed}
use Rattle.k_own.proofs.Due.{due_values}

none_ends : (ends : Bool) (q : Pid) → cond ends (User q ∷ Kernel ∷ []) [] ≡ [] → ends ≡ false
none_ends true q e = absurd (cc e)
none_ends false q e = refl

ended_if : (above ended : Bool) → (above && not ended) ≡ false → above ≡ true → ended ≡ true
ended_if true true none is = refl
ended_if true false none is = absurd (false≢true (sym none))
ended_if false ended none is = absurd (false≢true is)

module _ (before : Before) (c : HeapRecord) (b : BookRecord) (q : Pid) (due : IsDue before c b (Kill q)) where
  -- what the test of the limits asks
  pub book_of : IsBookOf before.trace b
  book_of = subst (IsBookOf before.trace) (sym due.book_is) due.have_met.book.of_trace

  pub asker_known : c.pid.0 < process_count before.trace
  asker_known = subst (λ (w : HeapRecord). w.pid.0 < process_count before.trace) (sym due.cell_is) (process_known before due.have_met)

  pub target_known : q.0 < process_count before.trace
  unfolding in_range
  target_known = ltb-true q.0 (process_count before.trace) due.may.in_range

  none : ends_other_in before.trace (book_shown_by before.book.value) before.cell.pid.0 q.0 ≡ false
  unfolding other_cells_in
  none = none_ends (ends_other_in before.trace (book_shown_by before.book.value) before.cell.pid.0 q.0) q due.own.alone

  -- the target has ended, or is not below
  module _ (p : Pid) (is : p ≡ c.pid) where
    same : is_above before.trace p.0 q.0 ≡ is_above before.trace before.cell.pid.0 q.0
    same = ap (λ (x : Pid). is_above before.trace x.0 q.0) (is ∙ ap (λ (w : HeapRecord). w.pid) due.cell_is)

    pub spared : is_above before.trace p.0 q.0 ≡ true → HasChanged before c b (Kill q) DoneReply
    spared t =
        let above = sym same ∙ t in
        kept_changed before c b (Kill q) due DoneReply refl
        (kill_idle before.trace (book_shown_by before.book.value) (idle_part before.cell.value) before.cell.pid q above
        (ended_if (is_above before.trace before.cell.pid.0 q.0) ((book_shown_by before.book.value).ended q.0) none above))

    pub refused : is_above before.trace p.0 q.0 ≡ false → HasChanged before c b (Kill q) (Refused (ProcNotBelow q))
    refused f =
        kept_changed before c b (Kill q) due (Refused (ProcNotBelow q)) refl
        (kill_refused before.trace (book_shown_by before.book.value) (idle_part before.cell.value) before.cell.pid q (sym same ∙ f))

module _ (before : Before) (c : HeapRecord) (b : BookRecord) (m : LimitId) (max : ℕ) (due : IsDue before c b (Resize m max)) where
  both : (m.0 < length before.trace.limits) × (max < maximum_below)
  unfolding in_range
  both =
      let parts = and_parts (nat_lt m.0 (length before.trace.limits)) (nat_lt max maximum_below) due.may.in_range in
      (ltb-true m.0 (length before.trace.limits) parts.0, ltb-true max maximum_below parts.1)

  module _ (p : Pid) (is : p ≡ c.pid) where
    same_pid : p ≡ before.cell.pid
    same_pid = is ∙ ap (λ (w : HeapRecord). w.pid) due.cell_is

    pub can_resize : CanResize before.trace b p.0 m.0 max
    can_resize = record {
      stands = subst (BookStands before.trace) (sym due.book_is) due.have_met.book;
      known = subst (λ (x : Pid). x.0 < process_count before.trace) (sym same_pid) (process_known before due.have_met);
      limit = both.0;
      small = both.1;
    }

    pub resized : (k : BookRecord) (said : Reply) → HasResized before.trace b k p m max said → HasChanged before c k (Resize m max) said
    resized k said r =
        let first : HasResized before.trace before.book k before.cell.pid m max said =
        subst (λ (x : Pid). HasResized before.trace before.book k x m max said) same_pid (subst (λ (x : BookRecord). HasResized before.trace x k p m max said) due.book_is r) in
        record {
          have_met = due.have_met;
          may = due.may;
          values = values_changed before (Resize m max) c c b k (due_values before c b (Resize m max) due refl) refl
              (r.book_is ∙ ap (λ (v : BookValue). record b { value = v }) (sym (ap (λ (x : BookRecord). x.value) r.book_is)))
              (due_values before c b (Resize m max) due refl).settled (due_values before c b (Resize m max) due refl).idle
              (record { homes = ap (λ (x : BookRecord). x.value.homes) r.book_is; owners = ap (λ (x : BookRecord). owner_in before.trace (book_shown_by x.value)) r.book_is });
          gives =
              subst (λ (w : HeapRecord). GivesAlone before.trace before.cell.pid (Resize m max) said (idle_part before.cell.value) (with_done (idle_part w.value)) (book_shown_by before.book.value) (book_shown_by k.value))
              (sym due.cell_is)
              (resize_alone before.trace (book_shown_by before.book.value) (book_shown_by k.value) (idle_part before.cell.value) before.cell.pid m max said (first.answered (part_alone (idle_part before.cell.value))) first.changed);
        }
