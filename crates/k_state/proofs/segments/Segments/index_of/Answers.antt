use Rattle.std.proofs.Common.{Bool, List, ap, subst, sym, ◌∙◌}
use Rattle.std.specs.Prelude.{IfNone, IsFalse}
use Rattle.k_types.specs.Sound.{IsOrdered}
use Rattle.k_types.specs.State.{Object, has}
use Rattle.k_state.proofs.Split.{has_in, ordered_in}
use Rattle.k_state.proofs.segments.Segments.index_of.Goals as goal

pub index_of-requires : goal.index_of-requires
index_of-requires c =
    subst IsOrdered (sym c.all_in.ensures) (ordered_in c.args.self.now.objects c.args.name.seg.0 c.requires)

pub returns-clause-none : goal.returns-clause-none
returns-clause-none c =
    subst (λ (b : Bool). IfNone c.index_of.result (IsFalse b))
    (ap (λ (xs : List Object). has xs c.args.name) c.all_in.ensures ∙ has_in c.args.self.now.objects c.args.name)
    c.index_of.ensures.none
