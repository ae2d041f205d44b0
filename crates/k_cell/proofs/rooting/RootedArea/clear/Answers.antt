use Rattle.std.proofs.Common.{sym, ap, ◌∙◌}
use Rattle.k_mark.specs.k_space.Areas.{AreaValue, gray_at, unmarked}
use Rattle.k_cell.proofs.Carried.{none_gray}
use Rattle.k_cell.proofs.Rooted.{all_same}
use Rattle.k_cell.proofs.rooting.RootedArea.clear.Goals as goal

pub returns-clause-area : goal.returns-clause-area
returns-clause-area c = rw c.clear-2.ensures.items (c.clear.ensures.area ∙ sym (all_same c.self.inside.area c.self.inside.noted.items) ∙ ap unmarked c.self.view_is)

pub invariant_of-self : goal.invariant_of-self
invariant_of-self c = λ t n. ap (λ (x : AreaValue). gray_at x n) c.clear.ensures.area ∙ none_gray c.self.inside.area n
