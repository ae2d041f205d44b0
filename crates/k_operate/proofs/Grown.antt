-- Journals that grow.
use Rattle.std.proofs.Common.{◌≡◌, sym, ap, ◌∙◌, List, ◌++◌, append_assoc}
use Rattle.k_types.specs.Complete.{IsPrefixOf}

pub prefix_by : {A : Type 0} (xs ys rest : List A) → ys ≡ xs ++ rest → IsPrefixOf xs ys
prefix_by xs ys rest is = (rest, sym is)

pub prefix_trans : {A : Type 0} (xs ys zs : List A) → IsPrefixOf xs ys → IsPrefixOf ys zs → IsPrefixOf xs zs
prefix_trans xs ys zs p q = (p.0 ++ q.0, sym (append_assoc xs p.0 q.0) ∙ ap (λ w. w ++ q.0) p.1 ∙ q.1)
