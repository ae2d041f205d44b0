use Rattle.std.proofs.Common.{List, ap, subst, sym, ◌∙◌}
use Rattle.k_types.specs.Sound.{IsOrdered}
use Rattle.k_types.specs.State.{Object, object_at}
use Rattle.k_state.proofs.Split.{object_in, ordered_in}
use Rattle.k_state.proofs.segments.Segments.find.Goals as goal

pub find-requires : goal.find-requires
find-requires c =
    subst IsOrdered (sym c.all_in.ensures) (ordered_in c.args.self.now.objects c.args.name.seg.0 c.requires)

pub returns : goal.returns
returns c =
    c.find.ensures ∙ ap (λ (xs : List Object). object_at xs c.args.name) c.all_in.ensures ∙ object_in c.args.self.now.objects c.args.name
