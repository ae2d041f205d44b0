use Rattle.k_guests.proofs.Grown.{as_many_more}
use Rattle.k_guests.proofs.growing.keeps_reserve.Goals as goal

pub returns : goal.returns
returns c =
    let same = as_many_more c.args.rooms.now.exits c.args.old.now.exits c.args.procs c.args.rooms.now.kernel_exits c.args.old.now.kernel_exits c.requires.exits c.requires.kernel_exits in
    ((λ yes. same.0 (c.has_reserve.ensures.0 yes)), (λ few. c.has_reserve.ensures.1 (same.1 few)))
