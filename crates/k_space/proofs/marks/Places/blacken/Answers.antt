use Rattle.k_space.proofs.SpotViews.{blackened}
use Rattle.k_space.proofs.marks.Places.blacken.Goals as goal

pub returns : goal.returns
returns c = blackened c.args.serial c.args.self.now c.mark.new.self c.mark.ensures.there c.mark.ensures.none
