use Rattle.std.proofs.Common.{◌≡◌, ◌<◌, Some, slice_get, length, arith}
use Rattle.k_space.proofs.Hinted.{exact_set, got}
use Rattle.k_space.proofs.Segs.{visited_at}
use Rattle.k_space.proofs.area.Area.visit_gray_at.Goals as goal

pub invariant_of-self-2 : goal.invariant_of-self-2
invariant_of-self-2 c =
    let low : c.args.at < length c.self.inside.segments.items = omega (arith, c.self.inside.segments.ok.0, c.if-at-len.false, c.len.ensures) in
    record {
      reserved = c.self.invariant.reserved;
      hints = c.self.invariant.hints;
      exact = λ t.
          exact_set c.self.inside.segments.items c.self.inside.hints.segments.items c.args.at c.index_mut.result.now c.visit_gray_from.new.self
          (got c.self.inside.segments.items c.args.at c.index_mut.result.now _ low c.index_mut.ensures.value) c.visit_gray_from.ensures.number (c.self.invariant.exact t);
    }

pub returns-clause-some : goal.returns-clause-some
returns-clause-some c =
    let low : c.args.at < length c.self.inside.segments.items = omega (arith, c.self.inside.segments.ok.0, c.if-at-len.false, c.len.ensures) in
    let there : slice_get c.self.inside.segments.items c.args.at ≡ Some c.index_mut.result.now = got c.self.inside.segments.items c.args.at c.index_mut.result.now _ low c.index_mut.ensures.value in
    visited_at c.args.bound c.self.inside.segments.items c.self.inside.room c.args.at c.args.self.now c.index_mut.result.now c.visit_gray_from.new.self c.in_ok-found.found c.visit_gray_from.new.into c.self.view_is c.requires.distinct there c.in_ok-found.ensures.some
