use Rattle.std.proofs.Common.{◌<◌, ap, sym, ◌∙◌, subst, List, length, replicate}
use Rattle.k_types.specs.declared.setup.LimitRow.{LimitRow}
use Rattle.k_types.specs.Limits.{ancestors_of}
use Rattle.k_types.specs.Names.{among}
use Rattle.k_types.proofs.Ancestors.{ancestors_in}
use Rattle.k_book.proofs.Resized.{count_seen, rows_seen}
use Rattle.k_book.proofs.parts.Book.below.Goals as goal

pub below-requires : goal.below-requires
below-requires c = subst (λ n. c.args.lower.0 < n) (count_seen c.self.inside.limits c.self.inside.entered c.self.inside.table c.self.inside.journal c.self.inside.of_process.items c.self.inside.ceiling c.self.inside.closed _ c.self.view_is) c.requires

pub returns-clause-above : goal.returns-clause-above
returns-clause-above c =
    c.below.ensures.above
    ∙ sym (ap (λ (rows : List LimitRow). among c.args.upper.0 (ancestors_of rows c.args.lower.0)) (rows_seen c.self.inside.limits c.self.inside.entered c.self.inside.table c.self.inside.journal c.self.inside.of_process.items c.self.inside.ceiling c.self.inside.closed _ c.self.view_is)
    ∙ ap (among c.args.upper.0) (ancestors_in c.self.inside.limits.rows (replicate (length c.self.inside.limits.rows) 0) c.args.lower.0))
