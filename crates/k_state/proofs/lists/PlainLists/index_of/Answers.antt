use Rattle.std.proofs.Common.{◌<◌, subst}
use Rattle.std.specs.Prelude.{IfSome}
use Rattle.k_types.specs.Trace.{segment_count}
use Rattle.k_state.specs.Machines.{Machine}
use Rattle.k_state.proofs.Split.{known_if}
use Rattle.k_state.proofs.lists.PlainLists.index_of.Goals as goal

pub returns-clause-known : goal.returns-clause-known
returns-clause-known c =
    subst (λ (m : Machine). IfSome c.index_of.result (λ k. c.args.name.seg.0 < segment_count m.setup)) c.self.view_is
    (known_if _ c.self.inside.segments.objects c.args.name c.index_of.result c.self.invariant.plain.declared c.index_of.ensures.some)
