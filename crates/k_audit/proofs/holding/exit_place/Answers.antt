use Rattle.std.proofs.Common.{◌≡◌, List, ◌+◌, ◌-◌, ◌/◌, ◌<◌, true, false, ap, sym, ◌∙◌, length, get_or, arith}
use Rattle.std.proofs.lemmas.List.{get_or_read}
use Rattle.k_types.specs.State.{ExitItem}
use Rattle.k_audit.specs.Tests.{exit_lt}
use Rattle.k_audit.proofs.ExitPlaces.{after_from, before_through}
use Rattle.k_audit.proofs.holding.exit_place.Goals as goal

pub loop-low-preserved-then-is_exit_before : goal.loop-low-preserved-then-is_exit_before
loop-low-preserved-then-is_exit_before c =
    let m = c.args.lists.now in
    let xs = m.state.exits in
    let w : ExitItem = record { heap = c.args.heap; target = c.args.target } in
    let middle = c.loop-low.low + (c.loop-low.high - c.loop-low.low) / 2 in
    let inside : middle < length xs = omega (arith, c.loop-low.invariant.high, c.loop-low-test.true) in
    let found : ExitItem = c.index-exits-middle.result in
    let is : found ≡ get_or xs middle found = c.index-exits-middle.is ∙ ap (λ (ys : List ExitItem). get_or ys middle found) c.exits-exits.ensures in
    record {
      low = omega (arith, c.loop-low-test.true);
      high = c.loop-low.invariant.high;
      before = λ k d low.
          let same : get_or xs middle d ≡ found = sym (get_or_read xs middle found inside is d) in
          let lt : exit_lt m.setup (get_or xs middle d) w ≡ true = ap (λ (e : ExitItem). exit_lt m.setup e w) same ∙ sym c.is_exit_before.ensures ∙ c.if-is_exit_before.true in
          before_through m.setup xs w middle k d c.requires inside lt (omega (arith, low));
      after = c.loop-low.invariant.after;
    }

pub loop-low-preserved : goal.loop-low-preserved
loop-low-preserved c =
    let m = c.args.lists.now in
    let xs = m.state.exits in
    let w : ExitItem = record { heap = c.args.heap; target = c.args.target } in
    let middle = c.loop-low.low + (c.loop-low.high - c.loop-low.low) / 2 in
    let inside : middle < length xs = omega (arith, c.loop-low.invariant.high, c.loop-low-test.true) in
    let found : ExitItem = c.index-exits-middle.result in
    let is : found ≡ get_or xs middle found = c.index-exits-middle.is ∙ ap (λ (ys : List ExitItem). get_or ys middle found) c.exits-exits.ensures in
    record {
      low = omega arith;
      high = omega (arith, inside);
      before = c.loop-low.invariant.before;
      after = λ k d low there.
          let same : get_or xs middle d ≡ found = sym (get_or_read xs middle found inside is d) in
          let ge : exit_lt m.setup (get_or xs middle d) w ≡ false = ap (λ (e : ExitItem). exit_lt m.setup e w) same ∙ sym c.is_exit_before.ensures ∙ c.if-is_exit_before.false in
          after_from m.setup xs w middle k d c.requires low there ge;
    }
