use Rattle.std.proofs.Common.{Option, Some, None, IfNone, length, List}
use Rattle.std.specs.Bool.{IsFalse}
use Rattle.k_types.specs.declared.names.Link.{Link}
use Rattle.k_types.specs.declared.names.Seg.{Seg}
use Rattle.k_exit.specs.declared.table.Wanted.TheVariants.{Into}
use Rattle.k_exit.specs.Exits.{ExitRow, leads_into}
use Rattle.k_exit.specs.Chains.{HasNoneWanted}
use Rattle.k_exit.proofs.Lists.{none_into}
use Rattle.k_exit.proofs.table.ExitTable.take_into.Goals as goal

by_answer : (r : Option Link) (items : List ExitRow) (seg : Seg) → IfNone r (HasNoneWanted items (Into seg) (length items)) → IfNone r (IsFalse (leads_into items seg.0))
by_answer None items seg none = none_into items seg.0 none
by_answer (Some link) items seg none = none

pub returns-clause-none : goal.returns-clause-none
returns-clause-none c = by_answer c.take.result c.args.self.now.items c.args.seg c.take.ensures.none
