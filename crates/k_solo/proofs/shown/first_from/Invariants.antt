use Rattle.std.proofs.Common.{◌≡◌, find}
use Rattle.k_solo.specs.Places.{is_from}
use Rattle.k_solo.proofs.shown.first_from.Given as goal

abbrev pub invariant-loop-s : goal.invariant-loop-s
invariant-loop-s l = find (is_from l.fn.seg) l.lists.state.objects ≡ find (is_from l.s) l.lists.state.objects
