use Rattle.std.proofs.Common.{arith}
use Rattle.std.proofs.lemmas.Option.{slice_get-get_or}
use Rattle.k_report.proofs.LineLemmas.{written_none, listed_next, listed_failed, listed_all}
use Rattle.k_answers.specs.Samples.{sample_words}
use Rattle.k_answers.proofs.samples.put_samples.Goals as goal

pub loop-sample-init : goal.loop-sample-init
loop-sample-init g c = record { written = written_none _ _; empty = c.requires.empty }

pub loop-sample-preserved : goal.loop-sample-preserved
loop-sample-preserved g c = record {
  written = listed_next sample_words c.args.samples.now c.loop-sample.sample-index _ _ _ _ _ _ _ _ (slice_get-get_or c.args.samples.now c.loop-sample.sample-index _ (omega (arith, c.loop-sample-test.true)))
      c.loop-sample.invariant.written c.in_ok-put_sample.ensures.written;
  empty = c.put_sample.ensures.empty;
}

pub returns-in_err-put_sample-clause-written : goal.returns-in_err-put_sample-clause-written
returns-in_err-put_sample-clause-written g c =
    listed_failed sample_words c.args.samples.now c.loop-sample.sample-index _ _ _ _ _ _ _ c.from_residual.result _ c.from_residual.ensures.0 (slice_get-get_or c.args.samples.now c.loop-sample.sample-index _ (omega (arith, c.loop-sample-test.true)))
    c.loop-sample.invariant.written c.in_err-put_sample.ensures.written

pub returns-clause-written : goal.returns-clause-written
returns-clause-written g c = listed_all sample_words c.args.samples.now c.loop-sample.sample-index _ _ _ _ _ (omega (arith, c.loop-sample-test.false)) c.loop-sample.invariant.written
