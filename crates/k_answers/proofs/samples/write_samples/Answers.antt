use Rattle.std.proofs.Common.{◌++◌, ◌∷◌, [], map, codes}
use Rattle.k_report.proofs.LineLemmas.{part_first, part_then, part_last, part_failed_first, part_failed, part_missing}
use Rattle.k_answers.specs.Samples.{sample_words, samples_lines}
use Rattle.k_answers.proofs.samples.write_samples.Goals as goal

pub returns-in_err-put_word : goal.returns-in_err-put_word
unfolding samples_lines
returns-in_err-put_word g c =
    part_missing _ _ _ _ c.from_residual.result ((codes "samples" ∷ []) ∷ [] ++ map sample_words c.args.samples.now) ((codes "end" ∷ []) ∷ []) c.from_residual.ensures.0
    (part_missing _ _ _ _ c.from_residual.result ((codes "samples" ∷ []) ∷ []) (map sample_words c.args.samples.now) c.from_residual.ensures.0
    (part_failed_first _ _ _ _ c.from_residual.result _ ((codes "samples" ∷ []) ∷ []) c.from_residual.ensures.0 c.in_err-put_word.ensures.written))

pub returns-in_err-put_samples : goal.returns-in_err-put_samples
unfolding samples_lines
returns-in_err-put_samples g c =
    part_missing _ _ _ _ c.from_residual-in_err-put_samples.result ((codes "samples" ∷ []) ∷ [] ++ map sample_words c.args.samples.now) ((codes "end" ∷ []) ∷ []) c.from_residual-in_err-put_samples.ensures.0
    (part_failed _ _ _ _ _ _ c.from_residual-in_err-put_samples.result _ ((codes "samples" ∷ []) ∷ []) (map sample_words c.args.samples.now) c.from_residual-in_err-put_samples.ensures.0 (part_first _ _ _ _ _ ((codes "samples" ∷ []) ∷ []) c.in_ok-put_word.ensures.written) c.in_err-put_samples.ensures.written)

pub returns : goal.returns
unfolding samples_lines
returns g c =
    part_last _ _ _ _ _ _ _ ((codes "samples" ∷ []) ∷ [] ++ map sample_words c.args.samples.now) ((codes "end" ∷ []) ∷ [])
    (part_then _ _ _ _ _ _ _ ((codes "samples" ∷ []) ∷ []) (map sample_words c.args.samples.now) (part_first _ _ _ _ _ ((codes "samples" ∷ []) ∷ []) c.in_ok-put_word.ensures.written) c.in_ok-put_samples.ensures.written)
    c.put_word-2.ensures.written
