use Rattle.std.proofs.Common.{sym, ap, ◌∙◌, option_map}
use Rattle.k_shares.specs.Sharers.{heap_number, lowest_orphan}
use Rattle.k_ends.proofs.Collected.{found_none, found_same}
use Rattle.k_ends.proofs.starting.is_first_orphan.Goals as goal

pub returns-in-Some : goal.returns-in-Some
returns-in-Some c =
    let v = c.args.book.now.value in
    found_same (lowest_orphan v.phases v.shares) c.in-Some.first.0 c.args.id.0 (sym c.first_orphan.ensures ∙ ap (option_map heap_number) c.in-Some.is)

pub returns-in-None : goal.returns-in-None
returns-in-None c =
    let v = c.args.book.now.value in
    found_none (lowest_orphan v.phases v.shares) c.args.id.0 (sym c.first_orphan.ensures ∙ ap (option_map heap_number) c.in-None.is)
