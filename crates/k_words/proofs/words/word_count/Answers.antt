use Rattle.std.proofs.lemmas.List.Splits.{length-slice_split}
use Rattle.std.proofs.Common.{eqb, ◌+◌, ap, sym, ◌∙◌}
use Rattle.k_words.proofs.words.word_count.Goals as goal

pub returns : goal.returns
returns c = ap (λ n. n + 1) c.count.ensures ∙ sym (length-slice_split (λ b. eqb b 32) c.args.line.now)
