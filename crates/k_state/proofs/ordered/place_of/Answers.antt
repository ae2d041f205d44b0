use Rattle.std.proofs.Common.{◌≡◌, ◌+◌, ◌-◌, ◌/◌, ◌<◌, true, false, ap, sym, ◌∙◌, length, get_or, arith}
use Rattle.std.proofs.lemmas.List.{get_or_read}
use Rattle.k_types.specs.declared.names.Name.{Name}
use Rattle.k_types.specs.Names.{name_lt}
use Rattle.k_types.specs.State.{Object}
use Rattle.k_state.proofs.Placed.{after_from, before_through}
use Rattle.k_state.proofs.ordered.place_of.Goals as goal

pub loop-low-preserved-then-is_before : goal.loop-low-preserved-then-is_before
loop-low-preserved-then-is_before c =
    let xs = c.args.objects.now in
    let middle = c.loop-low.low + (c.loop-low.high - c.loop-low.low) / 2 in
    let inside : middle < length xs = omega (arith, c.loop-low.invariant.high, c.loop-low-test.true) in
    let found : Object = c.index-objects-middle.result in
    let is : found ≡ get_or xs middle found = c.index-objects-middle.is in
    record {
      low = omega (arith, c.loop-low-test.true);
      high = c.loop-low.invariant.high;
      before = λ k d low.
          let same : get_or xs middle d ≡ found = sym (get_or_read xs middle found inside is d) in
          let lt : name_lt (get_or xs middle d).name c.args.name ≡ true
          = ap (λ (o : Object). name_lt o.name c.args.name) same ∙ ap (λ (n : Name). name_lt n c.args.name) (sym c.name.ensures) ∙ sym c.is_before.ensures ∙ c.if-is_before.true in
          before_through xs c.args.name middle k d c.requires inside lt (omega (arith, low));
      after = c.loop-low.invariant.after;
    }

pub loop-low-preserved : goal.loop-low-preserved
loop-low-preserved c =
    let xs = c.args.objects.now in
    let middle = c.loop-low.low + (c.loop-low.high - c.loop-low.low) / 2 in
    let inside : middle < length xs = omega (arith, c.loop-low.invariant.high, c.loop-low-test.true) in
    let found : Object = c.index-objects-middle.result in
    let is : found ≡ get_or xs middle found = c.index-objects-middle.is in
    record {
      low = omega arith;
      high = omega (arith, inside);
      before = c.loop-low.invariant.before;
      after = λ k d low there.
          let same : get_or xs middle d ≡ found = sym (get_or_read xs middle found inside is d) in
          let ge : name_lt (get_or xs middle d).name c.args.name ≡ false
          = ap (λ (o : Object). name_lt o.name c.args.name) same ∙ ap (λ (n : Name). name_lt n c.args.name) (sym c.name.ensures) ∙ sym c.is_before.ensures ∙ c.if-is_before.false in
          after_from xs c.args.name middle k d c.requires low there ge;
    }
