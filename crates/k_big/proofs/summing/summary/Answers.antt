use Rattle.std.proofs.Common.{◌∙◌, ℕ, ap, ◌∷◌, ◌++◌, decimal, codes}
use Rattle.k_io.proofs.Writings.{writes_same}
use Rattle.k_words.specs.Words.{Text}
use Rattle.k_big.proofs.Lines.{line_first, line_more}
use Rattle.k_big.proofs.summing.summary.Goals as goal

pub returns : goal.returns
returns g c =
    let big = line_first c.push_number.new.self (codes "big") c.args.objects
    (c.push_number.ensures.text
    ∙ ap (λ (t : Text). t ++ 32 ∷ decimal c.from.result) (c.push_text.ensures ∙ ap (λ (t : Text). t ++ codes "big") c.new-text.ensures)
    ∙ ap (λ (n : ℕ). codes "big" ++ 32 ∷ decimal n) c.from.ensures) in
    let operations = line_more _ c.push_next.new.text (codes "operations") _ c.from-2.result _ (c.from-2.ensures ∙ c.counts_of-counts.ensures.operations) c.push_next.ensures.text big in
    let events = line_more _ c.push_next-2.new.text (codes "events") _ c.from-3.result _ (c.from-3.ensures ∙ c.events.ensures) c.push_next-2.ensures.text operations in
    let faults = line_more _ c.push_next-3.new.text (codes "faults") _ c.from-4.result _ (c.from-4.ensures ∙ c.counts_of-counts.ensures.faults) c.push_next-3.ensures.text events in
    let freed = line_more _ c.push_next-4.new.text (codes "freed") _ c.counts_of-counts.result.freed _ c.counts_of-counts.ensures.freed c.push_next-4.ensures.text faults in
    let kernel = line_more _ c.push_next-5.new.text (codes "kernel") _ c.bytes.result _ c.bytes.ensures c.push_next-5.ensures.text freed in
    let live = line_more _ c.push_next-6.new.text (codes "live") _ c.charges_of.result _ c.charges_of.ensures c.push_next-6.ensures.text kernel in
    let root = line_more _ c.push_next-7.new.text (codes "root") _ c.use_of.result _ c.use_of.ensures c.push_next-7.ensures.text live in
    writes_same _ _ _ _ _ _ _ root.whole c.write_to.ensures.written
