use Rattle.std.proofs.Common.{◌≡◌, ◌+◌, ◌-◌, ◌/◌, ◌<◌, true, false, ap, sym, ◌∙◌, length, get_or, arith}
use Rattle.std.proofs.lemmas.List.{get_or_read}
use Rattle.k_types.specs.declared.names.Name.{Name}
use Rattle.k_types.specs.Names.{name_lt}
use Rattle.k_types.specs.State.{Object}
use Rattle.k_solo.proofs.NextObjects.{after_from, not_after_through}
use Rattle.k_solo.proofs.shown.place_after.Goals as goal

pub loop-low-preserved-then-is_before : goal.loop-low-preserved-then-is_before
loop-low-preserved-then-is_before c =
    let xs = c.args.objects.now in
    let middle = c.loop-low.low + (c.loop-low.high - c.loop-low.low) / 2 in
    let inside : middle < length xs = omega (arith, c.loop-low.invariant.high, c.loop-low-test.true) in
    let found : Object = c.index-objects-middle.result in
    let is : found ≡ get_or xs middle found = c.index-objects-middle.is in
    record {
      low = omega arith;
      high = omega (arith, inside);
      before = c.loop-low.invariant.before;
      after = λ k d low there.
          let same : get_or xs middle d ≡ found = sym (get_or_read xs middle found inside is d) in
          let lt : name_lt c.args.name (get_or xs middle d).name ≡ true
          = ap (λ (o : Object). name_lt c.args.name o.name) same ∙ ap (λ (n : Name). name_lt c.args.name n) (sym c.name.ensures) ∙ sym c.is_before.ensures ∙ c.if-is_before.true in
          after_from xs c.args.name middle k d c.requires low there lt;
    }

pub loop-low-preserved : goal.loop-low-preserved
loop-low-preserved c =
    let xs = c.args.objects.now in
    let middle = c.loop-low.low + (c.loop-low.high - c.loop-low.low) / 2 in
    let inside : middle < length xs = omega (arith, c.loop-low.invariant.high, c.loop-low-test.true) in
    let found : Object = c.index-objects-middle.result in
    let is : found ≡ get_or xs middle found = c.index-objects-middle.is in
    record {
      low = omega (arith, c.loop-low-test.true);
      high = c.loop-low.invariant.high;
      before = λ k d low.
          let same : get_or xs middle d ≡ found = sym (get_or_read xs middle found inside is d) in
          let ge : name_lt c.args.name (get_or xs middle d).name ≡ false
          = ap (λ (o : Object). name_lt c.args.name o.name) same ∙ ap (λ (n : Name). name_lt c.args.name n) (sym c.name.ensures) ∙ sym c.is_before.ensures ∙ c.if-is_before.false in
          not_after_through xs c.args.name middle k d c.requires inside ge (omega (arith, low));
      after = c.loop-low.invariant.after;
    }
