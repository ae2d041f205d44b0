use Rattle.std.proofs.Common.{◌≡◌, Option, Some, None, IfNone, length, List, []}
use Rattle.k_types.specs.declared.names.Link.{Link}
use Rattle.k_exit.specs.declared.table.Wanted.TheVariants.{Any}
use Rattle.k_exit.specs.Exits.{ExitRow}
use Rattle.k_exit.specs.Chains.{HasNoneWanted}
use Rattle.k_exit.proofs.Lists.{none_left}
use Rattle.k_exit.proofs.table.ExitTable.take_first.Goals as goal

by_answer : (r : Option Link) (items : List ExitRow) → IfNone r (HasNoneWanted items Any (length items)) → IfNone r (items ≡ [])
by_answer None items none = none_left items none
by_answer (Some link) items none = none

pub returns-clause-none : goal.returns-clause-none
returns-clause-none c = by_answer c.take.result c.args.self.now.items c.take.ensures.none
