use Rattle.std.proofs.Common.{◌≡◌, ◌+◌, ◌<◌, sym, ap, ap₂, ◌∙◌, subst, length, not, true, arith}
use Rattle.k_types.specs.declared.names.Heap.TheVariants.{User}
use Rattle.k_types.specs.Names.{among}
use Rattle.k_types.specs.Owners.{bytes_of, object_bytes, shared}
use Rattle.k_types.specs.State.{has_share}
use Rattle.k_types.specs.Totals.{total}
use Rattle.k_types.specs.Trace.{Trace}
use Rattle.std.specs.Prelude.{slice_index}
use Rattle.k_book.specs.Books.{BookRecord}
use Rattle.k_process.specs.Over.{OutcomeValue}
use Rattle.k_outcome.specs.Cells.{cell_at}
use Rattle.k_outcome.specs.Ends.{last_state}
use Rattle.k_outcome.proofs.Told.{book_shown, book_tells, bytes_told, phases_long}
use Rattle.k_outcome.proofs.Charged.{charged_all, charged_first, charged_fits, charged_more, charged_nothing, charged_on, charged_to, ended_by, living_by, weighs}
use Rattle.k_outcome.proofs.outcome.Outcome.charge_of.Goals.{then-shares, else-shares}
use Rattle.k_outcome.proofs.outcome.Outcome.charge_of.Goals as goal

pub returns-then-not-lives : goal.returns-then-not-lives
returns-then-not-lives c =
    let e = c.args.self.now in
    let book = book_shown e.cells c.cells-cells.result.now c.book-book.result.now c.cells-cells.ensures.cells c.book-book.ensures in
    let lives : c.lives.result ≡ not (among c.args.pid.0 (last_state e).ended)
    = c.lives.ensures ∙ ap (λ (b : BookRecord). not (among c.args.pid.0 b.value.ended)) book ∙ ap not ((book_tells e c.cells-cells.ensures.end).ended c.args.pid.0) in
    sym (charged_nothing e c.cells-cells.ensures.end c.args.pid.0 (ended_by c.lives.result (among c.args.pid.0 (last_state e).ended) lives c.if-not-lives.true))

pub bytes-sum-requires : goal.bytes-sum-requires
bytes-sum-requires c =
    subst (λ (o : OutcomeValue). c.args.pid.0 < length o.processes) (sym c.cells-cells.ensures.cells) (c.cells-cells.ensures.end.there (User c.args.pid) c.requires)

pub loop-id-init : goal.loop-id-init
loop-id-init c =
    let e = c.args.self.now in
    record {
      all = ap (λ (t : Trace). t.shared_heaps) c.setup.ensures.setup;
      charged = c.bytes-sum.ensures ∙ ap (λ (o : OutcomeValue). total object_bytes (cell_at o (User c.args.pid)).objects) c.cells-cells.ensures.cells
          ∙ bytes_told e c.cells-cells.ensures.end (User c.args.pid) c.requires ∙ sym (charged_first e c.cells-cells.ensures.end c.args.pid.0);
    }

pub shares-requires-clause-heap : goal.shares-requires-clause-heap
shares-requires-clause-heap c =
    let e = c.args.self.now in
    let book = book_shown e.cells c.cells-cells.result.now c.book-book.result.now c.cells-cells.ensures.cells c.book-book.ensures in
    subst (λ (b : BookRecord). c.loop-id.id < length b.value.phases) (sym book)
    (subst (λ n. c.loop-id.id < n) (sym (phases_long e c.cells-cells.ensures.end)) (subst (λ n. c.loop-id.id < n) c.loop-id.invariant.all c.loop-id-test.true))

pub bytes_of-sum-requires : goal.bytes_of-sum-requires
bytes_of-sum-requires c =
    let e = c.args.self.now in
    let book = book_shown e.cells c.cells-cells.result.now c.book-book.result.now c.cells-cells.ensures.cells c.book-book.ensures in
    subst (λ (b : BookRecord). c.loop-id.id < length b.value.phases) (sym book)
    (subst (λ n. c.loop-id.id < n) (sym (phases_long e c.cells-cells.ensures.end)) (subst (λ n. c.loop-id.id < n) c.loop-id.invariant.all c.loop-id-test.true))

pub overflow_add-sum : goal.overflow_add-sum
overflow_add-sum c =
    let e = c.args.self.now in
    let book = book_shown e.cells c.cells-cells.result.now c.book-book.result.now c.cells-cells.ensures.cells c.book-book.ensures in
    let tells = book_tells e c.cells-cells.ensures.end in
    let lives : c.lives.result ≡ not (among c.args.pid.0 (last_state e).ended)
    = c.lives.ensures ∙ ap (λ (b : BookRecord). not (among c.args.pid.0 b.value.ended)) book ∙ ap not (tells.ended c.args.pid.0) in
    let low : c.loop-id.id < e.setup.shared_heaps = subst (λ n. c.loop-id.id < n) c.loop-id.invariant.all c.loop-id-test.true in
    let shares : has_share (last_state e).shares c.args.pid.0 c.loop-id.id ≡ true
    = sym (c.shares.ensures ∙ ap (λ (b : BookRecord). has_share b.value.shares c.args.pid.0 c.loop-id.id) book ∙ tells.shares c.args.pid.0 c.loop-id.id) ∙ c.if-shares.true in
    let bytes : c.bytes_of-sum.result ≡ bytes_of e.setup (last_state e) (shared c.loop-id.id)
    = c.bytes_of-sum.ensures ∙ ap (λ (b : BookRecord). slice_index b.value.shared_bytes c.loop-id.id) book ∙ tells.bytes c.loop-id.id low in
    let fits = charged_fits e c.cells-cells.ensures.end c.args.pid.0 c.loop-id.id c.bytes_of-sum.result c.requires
    (living_by c.lives.result (among c.args.pid.0 (last_state e).ended) lives c.if-not-lives.false) low
    (weighs e c.cells-cells.ensures.end c.args.pid.0 c.loop-id.id c.bytes_of-sum.result shares bytes) in
    let same : c.loop-id.sum ≡ charged_to e c.args.pid.0 c.loop-id.id = c.loop-id.invariant.charged in
    omega (arith, same, fits)

pub loop-id-preserved : goal.loop-id-preserved
loop-id-preserved c =
    let e = c.args.self.now in
    let book = book_shown e.cells c.cells-cells.result.now c.book-book.result.now c.cells-cells.ensures.cells c.book-book.ensures in
    let tells = book_tells e c.cells-cells.ensures.end in
    let low : c.loop-id.id < e.setup.shared_heaps = subst (λ n. c.loop-id.id < n) c.loop-id.invariant.all c.loop-id-test.true in
    let shares : c.shares.result ≡ has_share (last_state e).shares c.args.pid.0 c.loop-id.id
    = c.shares.ensures ∙ ap (λ (b : BookRecord). has_share b.value.shares c.args.pid.0 c.loop-id.id) book ∙ tells.shares c.args.pid.0 c.loop-id.id in
    elim c.if-shares.branch [
      | then-shares w ↦
          let bytes : w.bytes_of-sum.result ≡ bytes_of e.setup (last_state e) (shared c.loop-id.id)
          = w.bytes_of-sum.ensures ∙ ap (λ (b : BookRecord). slice_index b.value.shared_bytes c.loop-id.id) book ∙ tells.bytes c.loop-id.id low in
          let weighed = weighs e c.cells-cells.ensures.end c.args.pid.0 c.loop-id.id w.bytes_of-sum.result (sym shares ∙ w.if-shares.true) bytes in
          record {
            all = c.loop-id.invariant.all;
            charged = w.sum-is ∙ ap₂ (λ m n. m + n) c.loop-id.invariant.charged weighed ∙ sym (charged_more e c.cells-cells.ensures.end c.args.pid.0 c.loop-id.id);
          }
      | else-shares w ↦ record {
        all = c.loop-id.invariant.all;
        charged = w.sum-is ∙ c.loop-id.invariant.charged ∙ charged_on e c.cells-cells.ensures.end c.args.pid.0 c.loop-id.id (sym shares ∙ w.if-shares.false);
      }
    ]

pub returns : goal.returns
returns c =
    let e = c.args.self.now in
    let book = book_shown e.cells c.cells-cells.result.now c.book-book.result.now c.cells-cells.ensures.cells c.book-book.ensures in
    let lives : c.lives.result ≡ not (among c.args.pid.0 (last_state e).ended)
    = c.lives.ensures ∙ ap (λ (b : BookRecord). not (among c.args.pid.0 b.value.ended)) book ∙ ap not ((book_tells e c.cells-cells.ensures.end).ended c.args.pid.0) in
    let over : c.loop-id.id ≡ e.setup.shared_heaps = omega (arith, c.loop-id.auto.id-end, c.loop-id-test.false, c.loop-id.invariant.all) in
    c.loop-id.invariant.charged ∙ ap (charged_to e c.args.pid.0) over
    ∙ charged_all e c.cells-cells.ensures.end c.args.pid.0 (living_by c.lives.result (among c.args.pid.0 (last_state e).ended) lives c.if-not-lives.false)
