use Rattle.std.proofs.Common.{subst}
use Rattle.k_trace.specs.Rules.{IsTrace}
use Rattle.k_print.specs.Printed.{Journal, journal_of, named_done}
use Rattle.k_print.proofs.Accepted.{traced}
use Rattle.k_print.proofs.printed.Printed.trace_text.Goals as goal

pub returns-clause-is_trace : goal.returns-clause-is_trace
returns-clause-is_trace c =
    subst (λ (j : Journal). IsTrace (named_done j)) c.self.view_is
    (traced (journal_of c.self.inside.names.now c.self.inside.setup.now c.self.inside.end.events) c.self.invariant.is_journal c.self.invariant.can)
