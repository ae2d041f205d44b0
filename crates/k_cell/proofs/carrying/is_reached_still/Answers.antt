use Rattle.k_mark.specs.k_types.Names.{name_among}
use Rattle.k_mark.specs.k_space.Areas.{gray_at}
use Rattle.k_mark.specs.Kept.{old_at}
use Rattle.k_mark.specs.Marking.{refers_at}
use Rattle.k_cell.proofs.Keeps.{kept_from}
use Rattle.k_cell.proofs.carrying.is_reached_still.Goals as goal

pub returns-then-whole-clause-kept : goal.returns-then-whole-clause-kept
returns-then-whole-clause-kept c = λ t.
    kept_from (old_at c.args.area.now c.args.bound) (refers_at c.args.area.now) (λ n. name_among n c.args.roots.now) (gray_at c.args.area.now) c.args.bound (c.are_gray.ensures t) (c.requires.kept c.if-whole.true)
