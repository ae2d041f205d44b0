use Rattle.std.proofs.Common.{◌<◌, subst}
use Rattle.k_book.proofs.Resized.{count_seen}
use Rattle.k_book.proofs.parts.Book.credit.Goals as goal

pub credit-requires-clause-there : goal.credit-requires-clause-there
credit-requires-clause-there c = subst (λ n. c.args.at.0 < n) (count_seen c.self.inside.limits c.self.inside.entered c.self.inside.table c.self.inside.journal c.self.inside.of_process.items c.self.inside.ceiling c.self.inside.closed _ c.self.view_is) c.requires.there
