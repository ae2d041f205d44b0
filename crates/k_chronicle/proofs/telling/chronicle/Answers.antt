use Rattle.std.proofs.Common.{◌∙◌, ap}
use Rattle.k_keeper.specs.k_host.Hosts.{HostValue}
use Rattle.k_chronicle.proofs.Told.{is_journal}
use Rattle.k_chronicle.proofs.telling.chronicle.Goals as goal

pub of-requires : goal.of-requires
of-requires c =
    is_journal c.args.keeper.now.host c.args.keeper.now.left c.keeps.ensures.kept c.names.result.now c.setup.result.now c.in_ok-events.events.items
    (c.names.ensures ∙ ap (λ (h : HostValue). h.basis.names) c.host-host.ensures) (c.setup.ensures ∙ ap (λ (h : HostValue). h.basis.trace) c.host-host.ensures)
    (c.in_ok-events.ensures ∙ ap (λ (h : HostValue). h.book.journal.list) c.host-host.ensures)
