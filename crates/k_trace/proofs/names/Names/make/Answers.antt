use Rattle.std.proofs.Common.{ℕ, length, ap, arith}
use Rattle.std.proofs.lemmas.List.{length-map}
use Rattle.std.specs.Global.{Vec}
use Rattle.k_trace.proofs.Made.{copies_are_short}
use Rattle.k_trace.proofs.Pushed.{AreNames_front, AreNames_back}
use Rattle.k_trace.proofs.names.Names.make.Goals as goal

pub list_of-requires-3 : goal.list_of-requires-3
list_of-requires-3 c = AreNames_front _ _ c.requires.heaps

pub list_of-requires-4 : goal.list_of-requires-4
list_of-requires-4 c = AreNames_back _ _ c.requires.heaps

pub invariant_of-result : goal.invariant_of-result
invariant_of-result c =
    let items = λ (name : Vec ℕ). name.items in
    record {
      few_types = omega (arith, ap length c.in_ok-types.ensures, length-map c.args.types.now items, c.requires.few_types);
      few_limits = omega (arith, ap length c.in_ok-limits.ensures, length-map c.args.limits.now items, c.requires.few_limits);
      few_procs = omega (arith, ap length c.in_ok-procs.ensures, length-map c.args.procs.now items, c.requires.few_procs);
      few_shared = omega (arith, ap length c.in_ok-shared.ensures, length-map c.args.shared.now items, c.requires.few_shared);
      short_types = copies_are_short _ _ c.in_ok-types.ensures c.requires.types;
      short_limits = copies_are_short _ _ c.in_ok-limits.ensures c.requires.limits;
      short_procs = copies_are_short _ _ c.in_ok-procs.ensures (AreNames_front _ _ c.requires.heaps);
      short_shared = copies_are_short _ _ c.in_ok-shared.ensures (AreNames_back _ _ c.requires.heaps);
    }
