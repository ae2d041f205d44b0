use Rattle.std.proofs.Common.{◌∙◌, ℕ, List, ◌++◌, ◌∷◌, ap, codes, decimal}
use Rattle.k_spell.proofs.Added.{heading_added}
use Rattle.k_spell.proofs.declared.add_heading.Goals as goal

pub returns : goal.returns
returns c =
    let version = c.push_number.ensures.text ∙ ap (λ (t : List ℕ). t ++ 32 ∷ decimal c.from.result) (rw c.new-line.ensures at c.push_text.ensures) in
    let kernel = c.push_text-2.ensures ∙ ap (λ (t : List ℕ). t ++ codes "kernel") c.append_to.ensures.empty in
    let ceiling = c.push_number-2.ensures.text ∙ ap (λ (t : List ℕ). t ++ 32 ∷ decimal c.args.setup.now.ceiling) kernel in
    let fields = c.push_number-3.ensures.text ∙ ap (λ (t : List ℕ). t ++ 32 ∷ decimal c.from-2.result) ceiling in
    heading_added c.append_to-2.result _ _ _ _ _ (decimal c.args.setup.now.version) (decimal c.args.setup.now.ceiling) (decimal c.args.setup.now.dir_fields)
    (rw c.from.ensures at version) c.in_ok-append_to.ensures.added (rw c.from-2.ensures at fields) c.append_to-2.ensures.added
