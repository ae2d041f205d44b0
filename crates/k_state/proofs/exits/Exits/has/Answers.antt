use Rattle.std.proofs.Common.{◌∙◌}
use Rattle.k_state.proofs.Linked.{found_is}
use Rattle.k_state.proofs.exits.Exits.has.Goals as goal

pub returns : goal.returns
returns c = c.is_some.ensures ∙ found_is c.args.self.now c.args.heap c.args.target c.find.result c.find.ensures.some c.find.ensures.none
