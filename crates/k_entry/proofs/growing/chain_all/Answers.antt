use Rattle.std.proofs.Common.{◌≡◌, ◌+◌, ◌<◌, ◌≤◌, ℕ, length, sym, ap, subst, ◌∙◌, add-one, arith}
use Rattle.k_entry.specs.Slots.{at, bucket, buckets, AreChained}
use Rattle.k_entry.proofs.Grown.{chained_none, chained_skip, chained_more, unchained}
use Rattle.k_entry.proofs.growing.chain_all.Goals as goal

pub loop-i-init : goal.loop-i-init
loop-i-init c = chained_none c.args.slots.now c.args.room c.args.chains.now c.requires.empty
