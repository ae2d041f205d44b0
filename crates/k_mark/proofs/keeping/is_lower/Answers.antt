use Rattle.std.proofs.Common.{◌≡◌, sym, ap, ◌∙◌}
use Rattle.k_laws.specs.k_types.State.{content_leads_to}
use Rattle.k_space.specs.declared.body.Stored.{Stored}
use Rattle.k_space.specs.Bounds.{is_covered}
use Rattle.k_space.specs.Objects.{content_of}
use Rattle.k_mark.proofs.Lower.{leads_there}
use Rattle.k_mark.proofs.keeping.is_lower.Goals as goal

pub returns-in-Refers : goal.returns-in-Refers
returns-in-Refers c = λ t n e.
    let same : n ≡ c.in-Refers.target.name = leads_there n c.in-Refers.target.name (ap (λ (s : Stored). content_leads_to n (content_of s)) (sym c.in-Refers.is) ∙ e) in
    ap (is_covered c.args.next) same ∙ sym c.covers.ensures ∙ t
