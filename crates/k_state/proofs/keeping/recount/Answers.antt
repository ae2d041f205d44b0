use Rattle.std.proofs.Common.{◌≡◌, ℕ, ◌+◌, ◌*◌, ◌<◌, ◌≤◌, List, ap, subst, sym, ◌∙◌, length, length-set, get_or, refl, set, take, replicate, arith}
use Rattle.std.proofs.lemmas.List.{get_or-replicate}
use Rattle.k_types.specs.declared.names.Name.{Name}
use Rattle.k_types.specs.Owners.{object_bytes}
use Rattle.k_types.specs.State.{Object}
use Rattle.k_state.specs.Machines.{AreTotals}
use Rattle.k_state.proofs.Totals.{counted_here, counted_past, segment_none, small_after}
use Rattle.k_state.proofs.keeping.recount.Goals as goal
use Rattle.k_state.proofs.keeping.recount.Goals.{then-seg-totals, else-seg-totals}

pub loop-object-init : goal.loop-object-init
loop-object-init c =
    let n = length c.args.totals.now in
    let zeros : c.fill.new.self ≡ replicate {A = ℕ} n 0 = c.fill.ensures.after (λ y e. e) in
    record {
      long = refl;
      sums = λ seg inside. ap (λ (xs : List ℕ). get_or xs seg 0) zeros ∙ get_or-replicate {A = ℕ} n seg 0 0 (omega (arith, inside, c.fill.ensures.len)) ∙ sym (segment_none seg);
      small = λ seg inside.
          let here = ap (λ (xs : List ℕ). get_or xs seg 0) zeros in
          omega (arith, here, get_or-replicate {A = ℕ} n seg 0 0 (omega (arith, inside, c.fill.ensures.len)));
    }

pub loop-object-preserved : goal.loop-object-preserved
loop-object-preserved c =
    let xs = c.args.objects.now in
    let i = c.loop-object.object-index in
    let o : Object = c.object-item.result in
    let before = c.loop-object.totals in
    let inv = c.loop-object.invariant in
    elim c.if-seg-totals.branch [
      | then-seg-totals w ↦
          let s = o.name.seg.0 in
          let n = get_or before s 0 in
          let is : c.if-seg-totals.totals ≡ set before s (n + object_bytes o)
          = w.totals-is
          ∙ ap (λ k. set before c.name-seg.result.seg.0 (get_or before c.name-seg.result.seg.0 0 + k)) w.size.ensures.size
          ∙ ap (λ (name : Name). set before name.seg.0 (get_or before name.seg.0 0 + object_bytes o)) c.name-seg.ensures in
          let there : s < length before = subst (λ (name : Name). name.seg.0 < length before) c.name-seg.ensures w.if-seg-totals.true in
          let few : object_bytes o ≤ 144 = omega (arith, w.size.ensures.size, w.size.ensures.small) in
          record {
            long = ap length is ∙ length-set before s (n + object_bytes o) ∙ inv.long;
            sums = subst (λ (ts : List ℕ). AreTotals (take (i + 1) xs) ts) (sym is)
                (counted_here xs i o before n c.loop-object-test.true c.object-item.is inv.sums refl);
            small = subst (λ (ts : List ℕ). (seg : ℕ) → seg < length ts → get_or ts seg 0 ≤ 144 * (i + 1)) (sym is)
                (λ seg inside. let low = small_after before s n (object_bytes o) (144 * i) inv.small refl there few seg inside in omega (arith, low));
          }
      | else-seg-totals w ↦
          let past : length before ≤ o.name.seg.0 = subst (λ (name : Name). length before ≤ name.seg.0) c.name-seg.ensures w.if-seg-totals.false in
          record {
            long = ap length w.totals-is ∙ inv.long;
            sums = subst (λ (ts : List ℕ). AreTotals (take (i + 1) xs) ts) (sym w.totals-is)
                (counted_past xs i o before c.loop-object-test.true c.object-item.is inv.sums past);
            small = subst (λ (ts : List ℕ). (seg : ℕ) → seg < length ts → get_or ts seg 0 ≤ 144 * (i + 1)) (sym w.totals-is)
                (λ seg inside. let low = inv.small seg inside in omega (arith, low));
          }
    ]
