use Rattle.std.proofs.Common.{◌∙◌, sym}
use Rattle.k_complete.proofs.ClosedKept.{can_collect_last, closed_all, closed_none}
use Rattle.k_complete.proofs.closing.close_all.Goals as goal

pub all_have_ended-requires : goal.all_have_ended-requires
all_have_ended-requires g c = c.requires.book.stands.of_trace

pub returns-then-not-all_have_ended : goal.returns-then-not-all_have_ended
returns-then-not-all_have_ended g c =
    closed_none g.world' c.args.kernel.now c.args.shared.now.items c.args.book.now c.requires (sym c.all_have_ended.ensures ∙ c.if-not-all_have_ended.true)

pub absorb_orphans-requires : goal.absorb_orphans-requires
absorb_orphans-requires g c = c.requires

pub collect_last-requires : goal.collect_last-requires
collect_last-requires g c =
    can_collect_last g.world' c.args.kernel.now c.args.shared.now.items c.args.book.now c.requires (sym c.all_have_ended.ensures ∙ c.if-not-all_have_ended.false)
    c.absorb_orphans.new.kernel c.absorb_orphans.new.shared.items c.absorb_orphans.new.book c.absorb_orphans.ensures

pub returns : goal.returns
returns g c =
    closed_all g.world' c.args.kernel.now c.args.shared.now.items c.args.book.now c.requires (sym c.all_have_ended.ensures ∙ c.if-not-all_have_ended.false)
    c.absorb_orphans.new.kernel c.absorb_orphans.new.shared.items c.absorb_orphans.new.book c.absorb_orphans.ensures
    c.collect_last.new.kernel c.collect_last.new.book c.collect_last.ensures
