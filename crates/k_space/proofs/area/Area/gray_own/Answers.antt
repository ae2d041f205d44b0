use Rattle.std.proofs.Common.{◌≡◌, ◌<◌, not, List, length, slice_get, Option, Some, is_some, sym, ap, ap₂, ◌∙◌, arith}
use Rattle.k_types.specs.Names.{name_of}
use Rattle.k_space.specs.Segments.{SegmentValue}
use Rattle.k_space.specs.Areas.{AreaValue}
use Rattle.k_space.proofs.Hinted.{exact_set, got}
use Rattle.k_space.proofs.Segs.{grayed_at}
use Rattle.k_space.proofs.area.Area.gray_own.Goals as goal

pub invariant_of-self : goal.invariant_of-self
invariant_of-self c =
    let low : c.place-at.result < length c.self.inside.segments.items = omega (arith, c.self.inside.segments.ok.0, c.if-at-len.false, c.len.ensures) in
    let there : slice_get c.self.inside.segments.items c.place-at.result ≡ Some c.index_mut.result.now = got c.self.inside.segments.items c.place-at.result c.index_mut.result.now _ low c.index_mut.ensures.value in
    record {
      reserved = c.self.invariant.reserved;
      hints = c.self.invariant.hints;
      exact = λ t. exact_set c.self.inside.segments.items c.self.inside.hints.segments.items c.place-at.result c.index_mut.result.now c.make_gray.new.self there c.make_gray.ensures.number (c.self.invariant.exact t);
    }

pub returns-clause-grayed : goal.returns-clause-grayed
returns-clause-grayed c =
    let low : c.place-at.result < length c.self.inside.segments.items = omega (arith, c.self.inside.segments.ok.0, c.if-at-len.false, c.len.ensures) in
    let there : slice_get c.self.inside.segments.items c.place-at.result ≡ Some c.index_mut.result.now = got c.self.inside.segments.items c.place-at.result c.index_mut.result.now _ low c.index_mut.ensures.value in
    grayed_at c.self.inside.segments.items c.self.inside.room c.place-at.result c.args.self.now (name_of c.args.target) c.index_mut.result.now c.make_gray.new.self c.self.view_is c.place-at.ensures there c.make_gray.ensures.grayed c.make_gray.ensures.gone

pub returns-clause-own : goal.returns-clause-own
returns-clause-own c =
    let low : c.place-at.result < length c.self.inside.segments.items = omega (arith, c.self.inside.segments.ok.0, c.if-at-len.false, c.len.ensures) in
    let there : slice_get c.self.inside.segments.items c.place-at.result ≡ Some c.index_mut.result.now = got c.self.inside.segments.items c.place-at.result c.index_mut.result.now _ low c.index_mut.ensures.value in
    ap (λ (o : Option SegmentValue). not (not (is_some o))) (sym there ∙ ap₂ (λ (ss : List SegmentValue) p. slice_get ss p) (ap (λ (a : AreaValue). a.segments) c.self.view_is) c.place-at.ensures)
