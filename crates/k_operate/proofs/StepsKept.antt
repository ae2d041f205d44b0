-- What steps leave.
use Rattle.std.proofs.Common.{◌≡◌, refl, sym, ap, ◌∙◌, subst, List, ◌∷◌, false, Option, Some, None, is_some, IsTrue, IfNone, IfSome}
use Rattle.std.proofs.lemmas.Bool.{false≢true}
use Rattle.k_types.specs.declared.event.Event.{Event}
use Rattle.k_types.specs.declared.event.Reply.{Reply}
use Rattle.k_types.specs.declared.op.Op.{Op}
use Rattle.k_types.specs.declared.op.Op.TheVariants.{Collect, KCollect, Exit}
use Rattle.k_types.specs.declared.names.Heap.TheVariants.{Kernel, Shared}
use Rattle.k_types.specs.Distinct.{AreDistinctNames}
use Rattle.k_laws.specs.Locals.{is_local_in}
use Rattle.k_types.specs.Trace.{operations_of}
use Rattle.k_agree.specs.Shown.{idle_part}
use Rattle.k_process.specs.k_book.Books.{BookRecord, book_entries}
use Rattle.k_entry.specs.Entries.{AreEntries}
use Rattle.k_process.specs.k_cell.Holdings.{HoldingsValue}
use Rattle.k_process.specs.k_heap.Heaps.{HeapRecord}
use Rattle.k_process.specs.k_shared.SharedHeaps.{SharedRecord}
use Rattle.k_process.specs.Locals.{after_local, local_answer}
use Rattle.k_process.specs.Beside.{HasSteppedWithKernel, HasSteppedWithShared}
use Rattle.k_process.specs.Others.{shared_by}
use Rattle.k_process.specs.Stepped.{HasStepped}
use Rattle.k_own.specs.Own.{CanStepOwn, is_collect}
use Rattle.k_pair.specs.Operating.{CanStepWithKernel, CanStepWithShared, collects_or_exits}
use Rattle.k_laws.specs.Counts.{allocates_in}
use Rattle.k_process.proofs.CanDo.{can_operate, can_operate_with_kernel, can_operate_with_shared}
use Rattle.k_process.proofs.Kept.{book_keeps, heap_keeps, kernel_keeps, left_now, shared_keeps}
use Rattle.k_process.proofs.Steps.{alone_allocates, beside_allocates, local_keeps, local_left}
use Rattle.k_process.specs.declared.process.Process.{Process}
use Rattle.k_process.specs.BetweenSteps.{ComesNext, HasDone, ProcessStands}
use Rattle.k_operate.specs.Steps.{CanDoAlone, CanDoInside, CanDoWithKernel, CanDoWithShared, HasDoneAlone, HasDoneInside, HasDoneWithKernel, HasDoneWithShared, PairStands}
use Rattle.k_operate.specs.Readiness.{begins_or_ends}
use Rattle.k_process.specs.Worlds.{WorldValue}
use Rattle.k_operate.proofs.Added.{local_steps}

-- a step in the own cell alone begins no collection
steps_own : (op : Op) → begins_or_ends op ≡ false → is_collect op ≡ false
steps_own Collect e = absurd (false≢true (sym e))
steps_own _ e = refl

-- a step with the kernel neither collects the kernel nor ends its process
steps_pair : (op : Op) → begins_or_ends op ≡ false → collects_or_exits op ≡ false
steps_pair KCollect e = absurd (false≢true (sym e))
steps_pair Exit e = absurd (false≢true (sym e))
steps_pair _ e = refl

module _ (world : WorldValue) (p : Process) (op : Op) (can : CanDoInside world p op) where
  pub done_inside : (w : HeapRecord) (r : Option Reply) → r ≡ local_answer p.cell.value p.cell.pid.0 op → is_some r ≡ is_local_in (idle_part p.cell.value) p.cell.pid.0 op → IfNone r (w ≡ p.cell) →
      IfSome r (λ said. w ≡ record p.cell { value = after_local p.cell.pid op said p.cell.value }) → HasDoneInside world op p (record p { cell = w }) (is_some r)
  done_inside w None answer told none some = record {
    process = subst (λ (x : HeapRecord). ProcessStands world (record p { cell = x })) (sym none) (record { cell = can.process.cell; operations = can.process.operations });
    some = λ t. absurd (false≢true t);
    none = λ t. none;
    outside = λ t. sym told;
    events = λ t. absurd (false≢true t);
    steps = λ t. absurd (false≢true t);
  }
  done_inside w (Some said) answer told none some =
      let kept = local_keeps world.trace world.table p.cell can.process.cell op can.next.rest can.next.left can.next.lives said (sym answer) in
      let left = local_left world.trace world.table p.cell can.process.cell op can.next.rest can.next.left can.next.lives said (sym answer) in
      let new = record p.cell { value = after_local p.cell.pid op said p.cell.value } in
      record {
        process = subst (λ (x : HeapRecord). ProcessStands world (record p { cell = x })) (sym some) (record { cell = kept; operations = can.process.operations });
        some = λ t. subst (λ (x : HeapRecord). HasDone world.trace op p.cell x) (sym some) (record { pid = refl; left = can.next.left ∙ ap (λ (ops : List Op). op ∷ ops) (sym left) });
        none = λ t. absurd (false≢true (sym t));
        outside = λ t. absurd (false≢true (sym t));
        events = λ t. record { said = said; new_is = ap (λ (x : HeapRecord). x.value.tail) some };
        steps = λ t. local_steps p.cell.value p.cell.pid.0 op said (sym answer);
      }

module _ (world : WorldValue) (p : Process) (b l : BookRecord) (op : Op) (w : HeapRecord) (event : Event) (pair : PairStands world p b) (next : ComesNext world.trace p.cell op) (s : HasStepped world.trace op p.cell w b l event) where
  pub done_alone : HasDoneAlone world op p (record p { cell = w }) l
  done_alone = record {
    pair = record {
      process = record {
        cell = heap_keeps world.trace world.table p.cell w b l op next.rest event pair.process.cell pair.book next.left next.lives s;
        operations = pair.process.operations ∙ ap (λ (q : Rattle.k_types.specs.declared.names.Pid.Pid). operations_of world.trace q.0) (sym (ap (λ (x : HeapRecord). x.pid) s.cell_is));
      };
      book = book_keeps world.trace world.table p.cell w b l op next.rest event pair.process.cell pair.book next.left next.lives s;
    };
    done = record {
      pid = ap (λ (x : HeapRecord). x.pid) s.cell_is;
      left = next.left ∙ ap (λ (ops : List Op). op ∷ ops) (sym (left_now world.trace world.table p.cell w b l op next.rest event pair.process.cell pair.book next.left next.lives s));
    };
    settled = s.settled;
  }

module _ (world : WorldValue) (p : Process) (b : BookRecord) (op : Op) (items : AreEntries (book_entries b)) where
  pub can_alone : CanDoAlone world p b op → AreDistinctNames p.cell.value.exits → CanStepOwn world.trace p.cell b op
  can_alone due distinct = record {
    can = can_operate world.trace world.table p.cell due.pair.process.cell op due.next.rest due.next.left b due.pair.book due.settled due.next.lives items distinct
        (alone_allocates world.trace _ _ p.cell.pid.0 op due.touches);
    own = λ fits. record { alone = due.touches; not_local = due.outside; no_collection = steps_own op due.steps };
  }

  pub can_with_kernel : (kernel : HoldingsValue) → CanDoWithKernel world p kernel b op → AreDistinctNames kernel.value.exits → CanStepWithKernel world.trace p.cell kernel b op
  can_with_kernel kernel can distinct = record {
    step = record {
      can = can_operate_with_kernel world.trace world.table p.cell can.due.pair.process.cell op can.due.next.rest can.due.next.left b can.due.pair.book can.due.settled can.due.next.lives items kernel can.kernel distinct
          (beside_allocates world.trace _ _ p.cell.pid.0 Kernel op can.due.touches);
      touches = λ fits kernel_fits. can.due.touches;
    };
    goes_on = steps_pair op can.due.steps;
  }

module _ (world : WorldValue) (p : Process) (b l : BookRecord) (op : Op) (w : HeapRecord) (event : Event) where
  pub done_with_kernel : (k x : HoldingsValue) → CanDoWithKernel world p k b op → HasSteppedWithKernel world.trace op p.cell w k x b l event → HasDoneWithKernel world op p (record p { cell = w }) x l
  done_with_kernel k x can s = record {
    own = done_alone world p b l op w event can.due.pair can.due.next s.beside.own;
    kernel = kernel_keeps world.trace world.table p.cell w k x b l op event can.kernel can.due.pair.book s;
  }

  pub done_with_shared : (k x : SharedRecord) → CanDoWithShared world p k b op → HasSteppedWithShared world.trace op p.cell w k x b l event →
      HasDoneWithShared world op p (record p { cell = w }) k x l
  done_with_shared k x can s = record {
    own = done_alone world p b l op w event can.due.pair can.due.next s.beside.own;
    shared = shared_keeps world.trace world.table p.cell w k x b l op event can.shared can.due.pair.book s;
    same = ap (λ (y : SharedRecord). y.id) (ap shared_by s.other_is);
  }

module _ (world : WorldValue) (p : Process) (b : BookRecord) (op : Op) (items : AreEntries (book_entries b)) where
  pub can_with_shared : (s : SharedRecord) → CanDoWithShared world p s b op → AreDistinctNames s.value.exits → CanStepWithShared world.trace p.cell s b op
  can_with_shared s can distinct = record {
    can = can_operate_with_shared world.trace world.table p.cell can.due.pair.process.cell op can.due.next.rest can.due.next.left b can.due.pair.book can.due.settled can.due.next.lives items s can.shared distinct
        (λ t. subst (λ n. IsTrue (allocates_in world.trace n p.cell.pid.0 op)) (sym can.shared.segment) (beside_allocates world.trace _ _ p.cell.pid.0 (Shared s.id) op can.due.touches t));
    touches = λ fits shared_fits. can.due.touches;
  }
