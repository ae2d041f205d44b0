use Rattle.std.proofs.Common.{◌<◌, ◌≤◌, ap, sym, ◌∙◌, subst}
use Rattle.k_types.specs.Limits.{max_of}
use Rattle.k_limits.specs.Limits.{ChargedLimits, use_at}
use Rattle.k_book.proofs.Resized.{count_seen, limits_seen}
use Rattle.k_book.proofs.parts.Book.use_of.Goals as goal

pub use_of-requires : goal.use_of-requires
use_of-requires c = subst (λ n. c.args.limit.0 < n) (count_seen c.self.inside.limits c.self.inside.entered c.self.inside.table c.self.inside.journal c.self.inside.of_process.items c.self.inside.ceiling c.self.inside.closed _ c.self.view_is) c.requires

pub returns-clause-sum : goal.returns-clause-sum
returns-clause-sum c = c.use_of.ensures.sum ∙ ap (λ (limits : ChargedLimits). use_at limits c.args.limit.0) (sym (limits_seen c.self.inside.limits c.self.inside.entered c.self.inside.table c.self.inside.journal c.self.inside.of_process.items c.self.inside.ceiling c.self.inside.closed _ c.self.view_is))

pub returns-clause-fits : goal.returns-clause-fits
returns-clause-fits c = subst (λ (limits : ChargedLimits). c.use_of.result ≤ max_of limits.rows c.args.limit.0) (sym (limits_seen c.self.inside.limits c.self.inside.entered c.self.inside.table c.self.inside.journal c.self.inside.of_process.items c.self.inside.ceiling c.self.inside.closed _ c.self.view_is)) c.use_of.ensures.fits
