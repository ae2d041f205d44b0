use Rattle.std.proofs.Common.{◌∙◌, ap, sym, length, arith, List}
use Rattle.std.proofs.lemmas.Bool.{not-true}
use Rattle.k_types.specs.declared.names.LimitId.{LimitId}
use Rattle.k_types.specs.Names.{among}
use Rattle.k_types.specs.Trace.{process_count}
use Rattle.k_types.proofs.Numbered.{all_below}
use Rattle.k_complete.proofs.Closings.{all_fails}
use Rattle.k_complete.proofs.closing.all_have_ended.Goals as goal

pub returns-then-lives : goal.returns-then-lives
returns-then-lives g c =
    let count = ap (λ (procs : List LimitId). length procs) c.requires.procs in
    let all = c.loop-p.invariant.all in
    sym (all_fails (λ q. among q c.args.book.now.value.ended) (process_count g.trace) c.loop-p.p (omega (arith, count, all, c.loop-p-test.true))
    (not-true (among c.loop-p.p c.args.book.now.value.ended) (sym c.lives.ensures ∙ c.if-lives.true)))

pub returns : goal.returns
returns g c =
    let count = ap (λ (procs : List LimitId). length procs) c.requires.procs in
    let all = c.loop-p.invariant.all in
    sym (all_below (λ q. among q c.args.book.now.value.ended) (process_count g.trace) (λ q inside. c.loop-p.invariant.ended q (omega (arith, count, all, inside, c.loop-p-test.false))))
