-- One operation of the process of a number leaves all that stands.
use Rattle.std.proofs.Common.{◌≡◌, ◌≢◌, ◌<◌, ◌+◌, ◌++◌, ℕ, zero, suc, refl, sym, ap, ◌∙◌, subst, List, [], ◌∷◌, append-nil, length, set, get_or, Option, Some, None, slice_get, inl, inr, arith, ltb-true, true}
use Rattle.std.proofs.lemmas.Bool.{cases_eq}
use Rattle.std.proofs.lemmas.Option.{slice_get-get_or, slice_get_read, slice_get_within}
use Rattle.k_types.specs.declared.names.Pid.{Pid}
use Rattle.k_types.specs.declared.op.Op.{Op}
use Rattle.k_types.specs.declared.op.Op.TheVariants.{Kill}
use Rattle.k_types.specs.Steps.{in_range}
use Rattle.k_types.specs.Trace.{Trace, process_count}
use Rattle.k_book.specs.Books.{BookRecord}
use Rattle.k_cell.specs.Holdings.{HoldingsValue}
use Rattle.k_heap.specs.Heaps.{HeapRecord, has_ended_in}
use Rattle.k_shared.specs.SharedHeaps.{SharedRecord}
use Rattle.k_operate.specs.k_process.Keeping.{operations_left}
use Rattle.k_operate.proofs.CanDo.{next_in_range}
use Rattle.k_operate.specs.k_process.declared.process.Process.{Process}
use Rattle.k_operate.specs.k_process.Heaps.{HeapsValue}
use Rattle.k_operate.specs.k_process.BetweenSteps.{AllStand, IsNextOf, IsThroughWith, ProcessStands}
use Rattle.k_operate.specs.k_process.Worlds.{WorldValue}
use Rattle.k_operate.proofs.Kept.{process_set}
use Rattle.k_operate.proofs.Written.{get_set_cases}
use Rattle.k_operate.specs.Adding.{AddsOperation, known_to}
use Rattle.k_operate.specs.Killing.{known_to_both}
use Rattle.k_operate.specs.Steps.{CanDoNext, HasDoneNext, HasPublishedAll, SparesOthers}
use Rattle.k_complete.specs.Ended.{AreKeptBut, HasCompleted, IsKept}
use Rattle.k_complete.specs.Placed.{CanDoAt, CanKillAt, HasDoneAt, HasKilledAt}
use Rattle.k_complete.proofs.EndKept.{fewer_left}
use Rattle.k_operate.proofs.Grown.{prefix_by, prefix_trans}
use Rattle.k_types.proofs.Lists.{slice_get-set_other, same_value}

-- what is written is found in its place, and any other place holds what it held
pub got_own : {A : Type 0} (xs : List A) (k : ℕ) (x y : A) → slice_get xs k ≡ Some y → slice_get (set xs k x) k ≡ Some x
got_own [] zero x y e = absurd cc
got_own [] (suc k) x y e = absurd cc
got_own (z ∷ xs) zero x y e = refl
got_own (z ∷ xs) (suc k) x y e = got_own xs k x y e

-- a kill names one process
pub same_target : {q r : Pid} → Kill q ≡ Kill r → q ≡ r
same_target e = cc e

-- what a place holds that is read, where no process has come or gone
pub read_there : {A : Type 0} (xs first : List A) (k : ℕ) (x : A) → length xs ≡ length first → k < length first → x ≡ get_or xs k x → slice_get xs k ≡ Some x
read_there xs first k x same inside read = slice_get_read xs (length first) k x (sym same) inside read

pub kept_same : (trace : Trace) (c : HeapRecord) → IsKept trace c c
kept_same trace c = record { same = record { pid = refl; left = refl }; through = λ was. was; published = λ none. none }

-- the processes but that of which the place is written are as they were
pub kept_by : (trace : Trace) (ps : List Process) (at : ℕ) (q : Process) → AreKeptBut trace at ps (set ps at q)
kept_by trace ps at q j r s ne old new = elim (get_set_cases ps at j q s new) [
  | inl here ↦ absurd (ne here.0)
  | inr there ↦ subst (λ (x : Process). IsKept trace r.cell x.cell) (same_value (sym old ∙ there)) (kept_same trace r.cell)
]

pub kept_all : (trace : Trace) (ps : List Process) (at : ℕ) → AreKeptBut trace at ps ps
kept_all trace ps at j r s ne old new = subst (λ (x : Process). IsKept trace r.cell x.cell) (same_value (sym old ∙ new)) (kept_same trace r.cell)

-- and once more
pub kept_on : (trace : Trace) (at : ℕ) (xs ys zs : List Process) → length ys ≡ length xs → AreKeptBut trace at xs ys → AreKeptBut trace at ys zs → AreKeptBut trace at xs zs
kept_on trace at xs ys zs same first second j r s ne old new =
    let within = slice_get_within xs j r old in
    let there = slice_get-get_or ys j r (omega (arith, within, same)) in
    let one = first j r (get_or ys j r) ne old there in
    let two = second j (get_or ys j r) s ne there new in
    record {
      same = record { pid = two.same.pid ∙ one.same.pid; left = two.same.left ∙ one.same.left };
      through = λ was. two.through (one.through was);
      published = λ none. two.published (one.published none);
    }

-- how many operations are left of the process in a place
abbrev pub left_of : Trace → Option Process → ℕ
left_of trace None = 0
left_of trace (Some p) = length (operations_left trace p.cell)

module _ (world : WorldValue) (heaps : HeapsValue) (at : ℕ) (p : Process) (op : Op) (n : CanDoAt world heaps at p op) where
  stands_at : ProcessStands world p
  stands_at = n.stand.processes.each at p n.there

  pub fewer_at : (new : HeapsValue) → HasDoneAt world op at p heaps new → left_of world.trace (slice_get new.processes at) < left_of world.trace (slice_get heaps.processes at)
  fewer_at new h =
      let was : left_of world.trace (slice_get heaps.processes at) ≡ length (operations_left world.trace p.cell) = ap (left_of world.trace) n.there in
      let now : left_of world.trace (slice_get new.processes at) ≡ length (operations_left world.trace h.process.cell) = ap (left_of world.trace) h.there in
      let fewer = fewer_left world op p.cell h.process.cell h.done in
      omega (arith, was, now, fewer)

  pub can_do_next : SparesOthers p op → CanDoNext world p heaps.kernel heaps.shared heaps.book op
  can_do_next spares = record { process = stands_at; rest = n.stand.rest; next = n.next; spares = spares }

  -- an operation that kills no other process
  pub done_next : (q : Process) (x : HoldingsValue) (ts : List SharedRecord) (l : BookRecord) → HasDoneNext world op p q x ts l → AddsOperation world.trace p.cell.pid op (known_to p heaps.book) (known_to q l) →
      HasDoneAt world op at p heaps (record { processes = set heaps.processes at q; kernel = x; shared = ts; book = l })
  done_next q x ts l d adds = record {
    stand = record { processes = process_set world heaps.processes at p q n.stand.processes n.there d.process d.done.pid; rest = d.rest };
    process = q;
    there = got_own heaps.processes at q p n.there;
    done = d.done;
    others = kept_by world.trace heaps.processes at q;
    grows = prefix_by (known_to p heaps.book) (known_to q l) _ adds.new_is;
    events = λ published. adds;
  }

  pub spares_by : ((q : Pid) → op ≡ Kill q → q.0 ≡ at) → SparesOthers p op
  spares_by spares q is =
      let same : q.0 ≡ p.cell.pid.0 = spares q is ∙ sym (n.stand.processes.placed at p n.there) in
      ap (λ (m : ℕ). record { 0 = m }) same

  -- the kill of another process
  module _ (q : Pid) (kills : op ≡ Kill q) (two : q.0 ≢ at) where
    named : in_range world.trace op ≡ true → q.0 < process_count world.trace
    unfolding in_range
    named inside = ltb-true q.0 (process_count world.trace) (ap (in_range world.trace) (sym kills) ∙ inside)

    target_there : slice_get heaps.processes q.0 ≡ Some (get_or heaps.processes q.0 p)
    target_there = slice_get-get_or heaps.processes q.0 p
        (subst (λ m. q.0 < m) (sym n.stand.processes.count) (named (next_in_range world.trace world.table p.cell stands_at.cell op n.next.rest n.next.left)))

    abbrev pub target : Process
    target = get_or heaps.processes q.0 p

    asks : op ≡ Kill target.cell.pid
    asks =
        let same : q.0 ≡ target.cell.pid.0 = sym (n.stand.processes.placed q.0 target target_there) in
        kills ∙ ap (λ (m : ℕ). Kill (record { 0 = m })) same

    pub can_kill_at : CanKillAt world heaps.processes at q.0 p target heaps.kernel heaps.book op
    can_kill_at = record {
      own = n.there;
      other = target_there;
      two = two;
      can = record {
        pair = record { process = stands_at; book = n.stand.rest.book };
        target = n.stand.processes.each q.0 target target_there;
        kernel = n.stand.rest.kernel;
        next = n.next;
        asks = asks;
      };
    }

    pub done_kill : (new : List Process) (x : HoldingsValue) (l : BookRecord) → HasKilledAt world op at q.0 p target heaps.processes new x heaps.book l → HasDoneAt world op at p heaps (record { processes = new; kernel = x; shared = heaps.shared; book = l })
    done_kill new x l h =
        let own = process_set world heaps.processes at p h.process n.stand.processes n.there h.done.own.pair.process h.done.own.done.pid in
        let other = slice_get-set_other heaps.processes at q.0 h.process two ∙ target_there in
        subst (λ (qs : List Process). HasDoneAt world op at p heaps (record { processes = qs; kernel = x; shared = heaps.shared; book = l })) (sym h.new_is) (record {
          stand = record {
            processes = process_set world (set heaps.processes at h.process) q.0 target h.other own other h.done.target h.done.same.pid;
            rest = record { kernel = h.done.kernel; shared = n.stand.rest.shared; book = h.done.own.pair.book };
          };
          process = h.process;
          there = slice_get-set_other (set heaps.processes at h.process) q.0 at h.other (λ e. two (sym e)) ∙ got_own heaps.processes at h.process p n.there;
          done = h.done.own.done;
          others = λ j r s ne old found. elim (get_set_cases (set heaps.processes at h.process) q.0 j h.other s found) [
            | inl here ↦
                let was : target ≡ r = same_value (sym target_there ∙ sym (ap (slice_get heaps.processes) here.0) ∙ old) in
                subst (λ (y : Process). IsKept world.trace y.cell s.cell) was
                (subst (λ (y : Process). IsKept world.trace target.cell y.cell) here.1 (record { same = h.done.same; through = h.done.through; published = λ none. h.done.published }))
            | inr there ↦ kept_by world.trace heaps.processes at h.process j r s ne old there
          ];
          grows = prefix_trans (known_to p heaps.book) (known_to_both p target heaps.book) (known_to h.process l) (prefix_by (known_to p heaps.book) (known_to_both p target heaps.book) target.cell.value.tail refl)
              (prefix_by (known_to_both p target heaps.book) (known_to h.process l) _ h.events.new_is);
          events = λ published. subst (λ old. AddsOperation world.trace p.cell.pid op old (known_to h.process l))
              (ap (λ tail. known_to p heaps.book ++ tail) (published q.0 target target_there) ∙ append-nil (known_to p heaps.book)) h.events;
        })

-- a process of which nothing is left has published its last events
pub completed : (world : WorldValue) (first heaps : HeapsValue) (at : ℕ) (p q : Process) (l : BookRecord) → AllStand world heaps → slice_get heaps.processes at ≡ Some p →
    length heaps.processes ≡ length first.processes → AreKeptBut world.trace at first.processes heaps.processes → IsNextOf world.trace p.cell None → HasPublishedAll world p q heaps.book l →
    HasCompleted world at first (record { processes = set heaps.processes at q; kernel = heaps.kernel; shared = heaps.shared; book = l })
completed world first heaps at p q l a there same kept none t = record {
  stand = record {
    processes = process_set world heaps.processes at p q a.processes there t.pair.process (ap (λ (c : HeapRecord). c.pid) t.cell_is);
    rest = record { kernel = a.rest.kernel; shared = a.rest.shared; book = t.pair.book };
  };
  through = λ r found. subst (λ (x : Process). IsThroughWith world.trace x.cell) (same_value (sym (got_own heaps.processes at q p there) ∙ found)) (record {
    published = t.settled;
    all = λ lives. ap (operations_left world.trace) t.cell_is ∙ none (sym (ap (λ (c : HeapRecord). has_ended_in c.value.process) t.cell_is) ∙ lives);
  });
  others = kept_on world.trace at first.processes heaps.processes (set heaps.processes at q) same kept (kept_by world.trace heaps.processes at q);
}

-- once one more process has been completed, all up to it are through
pub through_next : (world : WorldValue) (old new : HeapsValue) (n : ℕ) → ((j : ℕ) (p : Process) → j < n → slice_get old.processes j ≡ Some p → IsThroughWith world.trace p.cell) →
    length new.processes ≡ length old.processes → HasCompleted world n old new → (j : ℕ) (p : Process) → j < n + 1 → slice_get new.processes j ≡ Some p → IsThroughWith world.trace p.cell
through_next world old new n below same h j r inside found = elim (cases_eq j n) [
  | inl is ↦ h.through r (ap (slice_get new.processes) (sym is) ∙ found)
  | inr other ↦
      let within = slice_get_within new.processes j r found in
      let there = slice_get-get_or old.processes j r (omega (arith, within, same)) in
      (h.others j (get_or old.processes j r) r other there found).through (below j (get_or old.processes j r) (omega (arith, inside, other)) there)
]
