use Rattle.std.proofs.Common.{◌∷◌, [], arith}
use Rattle.k_report.proofs.LineLemmas.{written_none, listed_next, listed_failed, listed_all}
use Rattle.k_text.specs.Shown.{exits_of}
use Rattle.k_text.specs.Named.{heap_word, name_word}
use Rattle.k_text.specs.Report.{exits_of_heap}
use Rattle.k_report.proofs.exits.exits_of_heap.Goals as goal

pub loop-i-init : goal.loop-i-init
loop-i-init g c = record { written = written_none _ _; empty = c.requires.empty }

pub loop-i-preserved : goal.loop-i-preserved
loop-i-preserved g c = record {
  written = listed_next (λ n. heap_word c.args.names.now c.args.heap ∷ name_word c.args.names.now n ∷ []) (exits_of (g.V.View.state c.args.view.now).exits c.args.heap) c.loop-i.i _ _ _ _ _ _ _ _ c.exit.ensures.there c.loop-i.invariant.written c.in_ok-put_exit.ensures.written;
  empty = c.put_exit.ensures.empty;
}

pub returns-in_err-put_exit-clause-written : goal.returns-in_err-put_exit-clause-written
unfolding exits_of_heap
returns-in_err-put_exit-clause-written g c =
    listed_failed (λ n. heap_word c.args.names.now c.args.heap ∷ name_word c.args.names.now n ∷ []) (exits_of (g.V.View.state c.args.view.now).exits c.args.heap) c.loop-i.i _ _ _ _ _ _ _ c.from_residual.result _ c.from_residual.ensures.0 c.exit.ensures.there c.loop-i.invariant.written c.in_err-put_exit.ensures.written

pub returns-clause-written : goal.returns-clause-written
unfolding exits_of_heap
returns-clause-written g c = listed_all (λ n. heap_word c.args.names.now c.args.heap ∷ name_word c.args.names.now n ∷ []) (exits_of (g.V.View.state c.args.view.now).exits c.args.heap) c.loop-i.i _ _ _ _ _ (omega (arith, c.exits-i-end.ensures)) c.loop-i.invariant.written
