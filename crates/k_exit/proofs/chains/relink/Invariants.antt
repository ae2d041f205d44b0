use Rattle.std.proofs.Common.{◌≡◌, map, length, vec_capacity}
use Rattle.k_exit.specs.Chains.{row_of, IsLinked}
use Rattle.k_exit.proofs.chains.relink.Given as goal

abbrev pub invariant-loop-i : goal.invariant-loop-i
invariant-loop-i l = record {
  linked : IsLinked l.items.items l.heads.items l.i l.i;
  rows : map row_of l.items.items ≡ map row_of l.fn.items.items;
  capacity : vec_capacity l.items ≡ vec_capacity l.fn.items;
  room : length l.heads.items ≡ length l.fn.heads.items;
  heads_capacity : vec_capacity l.heads ≡ vec_capacity l.fn.heads;
  len : length l.items.items ≡ l.len;
}
