use Rattle.std.proofs.Common.{◌≡◌, ◌-◌, ◌+◌, ◌||◌, ap, subst, sym, ◌∙◌, length, arith, eq-eqb, ne_eqb}
use Rattle.k_types.specs.Limits.{ancestors_within}
use Rattle.k_types.specs.Names.{among}
use Rattle.k_state.specs.Machines.{IsPlain, Machine}
use Rattle.k_state.proofs.Above.{above_over, above_parent, above_root}
use Rattle.k_state.proofs.Paths.{parent_known}
use Rattle.k_state.proofs.Rows.{parent_kept}
use Rattle.k_state.proofs.lists.PlainLists.is_ancestor.Goals as goal

pub loop-init : goal.loop-init
loop-init c =
    let m = c.args.self.now in
    let shown = ap (λ (n : Machine). length n.setup.limits) c.self.view_is in
    let all : c.len-end.result ≡ length m.setup.limits = omega arith in
    let begin : c.len-end.result - 0 ≡ length m.setup.limits = omega arith in
    record { known = c.requires; all = all; found = ap (λ n. among c.args.upper.0 (ancestors_within m.setup.limits n c.args.lower.0)) begin }

pub returns-then-parent-upper : goal.returns-then-parent-upper
returns-then-parent-upper c =
    let m = c.args.self.now in
    let plain : IsPlain m = subst IsPlain c.self.view_is c.self.invariant.plain in
    let depth = c.len-end.result - c.loop.counter in
    let kept = parent_kept m.setup.limits m.state.maxima c.loop.at.0 c.row-row.result c.loop.invariant.known plain.sized.maxima c.row-row.ensures.row in
    let up = above_parent m.setup.limits c.args.upper.0 depth c.loop.at.0 c.in-Some.parent (omega arith) (sym kept ∙ c.in-Some.is) in
    sym (up ∙ ap (λ b. b || among c.args.upper.0 (ancestors_within m.setup.limits (depth - 1) c.in-Some.parent.0)) (eq-eqb c.in-Some.parent.0 c.args.upper.0 c.if-parent-upper.true)) ∙ c.loop.invariant.found

pub returns-in-None : goal.returns-in-None
returns-in-None c =
    let m = c.args.self.now in
    let plain : IsPlain m = subst IsPlain c.self.view_is c.self.invariant.plain in
    let kept = parent_kept m.setup.limits m.state.maxima c.loop.at.0 c.row-row.result c.loop.invariant.known plain.sized.maxima c.row-row.ensures.row in
    sym (above_root m.setup.limits c.args.upper.0 (c.len-end.result - c.loop.counter) c.loop.at.0 (omega arith) (sym kept ∙ c.in-None.is)) ∙ c.loop.invariant.found

pub loop-preserved : goal.loop-preserved
loop-preserved c =
    let m = c.args.self.now in
    let plain : IsPlain m = subst IsPlain c.self.view_is c.self.invariant.plain in
    let depth = c.len-end.result - c.loop.counter in
    let kept = parent_kept m.setup.limits m.state.maxima c.loop.at.0 c.row-row.result c.loop.invariant.known plain.sized.maxima c.row-row.ensures.row in
    let up = above_parent m.setup.limits c.args.upper.0 depth c.loop.at.0 c.in-Some.parent (omega arith) (sym kept ∙ c.in-Some.is) in
    let next : c.len-end.result - (c.loop.counter + 1) ≡ depth - 1 = omega arith in
    record {
      known = parent_known m.setup.limits m.state.maxima c.loop.at.0 c.row-row.result c.in-Some.parent plain.setup.limits.tree c.loop.invariant.known plain.sized.maxima c.row-row.ensures.row c.in-Some.is;
      all = c.loop.invariant.all;
      found = ap (λ n. among c.args.upper.0 (ancestors_within m.setup.limits n c.in-Some.parent.0)) next
          ∙ sym (up ∙ ap (λ b. b || among c.args.upper.0 (ancestors_within m.setup.limits (depth - 1) c.in-Some.parent.0)) (ne_eqb c.in-Some.parent.0 c.args.upper.0 c.if-parent-upper.false))
          ∙ c.loop.invariant.found;
    }

pub returns : goal.returns
returns c =
    let m = c.args.self.now in
    let none : c.len-end.result - c.loop.counter ≡ 0 = omega arith in
    sym (above_over m.setup.limits c.args.upper.0 (c.len-end.result - c.loop.counter) c.loop.at.0 none) ∙ c.loop.invariant.found
