use Rattle.k_space.specs.declared.segment.Visited.{Visited}
use Rattle.k_space.specs.Visiting.{IsVisitedIn, IsVisitedFromIn}
use Rattle.k_space.proofs.Segs.{if_some_more, visited_all_in}
use Rattle.k_space.proofs.segment.Segment.visit_gray.Goals as goal

pub returns-clause-some : goal.returns-clause-some
returns-clause-some c =
    if_some_more (λ (found : Visited). IsVisitedFromIn c.nothing.result c.args.self.now c.visit_gray_from.new.self found c.visit_gray_from.new.into) (λ (found : Visited). IsVisitedIn c.args.self.now c.visit_gray_from.new.self found c.visit_gray_from.new.into) c.visit_gray_from.result
    (λ found v. visited_all_in c.nothing.result _ c.args.self.now c.visit_gray_from.new.self found c.visit_gray_from.new.into c.nothing.ensures v) c.visit_gray_from.ensures.some
