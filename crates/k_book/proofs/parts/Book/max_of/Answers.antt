use Rattle.std.proofs.Common.{◌<◌, ap, sym, ◌∙◌, subst}
use Rattle.k_types.specs.Limits.{max_of}
use Rattle.k_limits.specs.Limits.{ChargedLimits}
use Rattle.k_book.proofs.Resized.{count_seen, limits_seen}
use Rattle.k_book.proofs.parts.Book.max_of.Goals as goal

pub max_of-requires : goal.max_of-requires
max_of-requires c = subst (λ n. c.args.limit.0 < n) (count_seen c.self.inside.limits c.self.inside.entered c.self.inside.table c.self.inside.journal c.self.inside.of_process.items c.self.inside.ceiling c.self.inside.closed _ c.self.view_is) c.requires

pub returns-clause-value : goal.returns-clause-value
returns-clause-value c = c.max_of.ensures.value ∙ ap (λ (limits : ChargedLimits). max_of limits.rows c.args.limit.0) (sym (limits_seen c.self.inside.limits c.self.inside.entered c.self.inside.table c.self.inside.journal c.self.inside.of_process.items c.self.inside.ceiling c.self.inside.closed _ c.self.view_is))
