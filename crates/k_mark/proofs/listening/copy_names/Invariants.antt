use Rattle.std.proofs.Common.{◌≡◌, take, vec_capacity}
use Rattle.k_mark.proofs.listening.copy_names.Given as goal

abbrev pub invariant-loop-name : goal.invariant-loop-name
invariant-loop-name l = (l.into.items ≡ take l.name-index l.names) × (vec_capacity l.into ≡ vec_capacity l.fn.into)
