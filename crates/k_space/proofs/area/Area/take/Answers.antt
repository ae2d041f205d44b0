use Rattle.std.proofs.Common.{◌≡◌, ◌-◌, ℕ, List, Some, None, sym, ap, subst, ◌∙◌, get_or, slice_get, length, arith}
use Rattle.std.proofs.lemmas.Option.{slice_get-get_or, slice_get_past}
use Rattle.k_space.specs.Segments.{SegmentValue}
use Rattle.k_space.specs.Areas.{AreaValue, place_of, segment_at}
use Rattle.k_space.proofs.AreaRows.{number_found}
use Rattle.k_space.proofs.Numbers.{IsWithout, distinct_without, gone_without, kept_without}
use Rattle.k_space.proofs.area.Area.take.Goals as goal

same : (c : goal.After-swap_remove) → c.self.inside.segments.items ≡ c.args.self.now.segments
same c = ap (λ (a : AreaValue). a.segments) c.self.view_is

-- the hint left the segments
still : (c : goal.After-swap_remove) → c.self-then-at-len.inside.segments.items ≡ c.args.self.now.segments
still c = ap (λ (a : AreaValue). a.segments) (c.self-then-at-len.view_is ∙ c.hint.ensures)

without : (c : goal.After-swap_remove) → IsWithout c.args.self.now.segments c.swap_remove.new.self.items c.place-at.result
without c =
    subst (λ (xs : List SegmentValue). IsWithout xs c.swap_remove.new.self.items c.place-at.result) (still c)
    (let old = c.self-then-at-len.inside.segments in
    let len : length old.items ≡ old.len = sym old.ok.0 in
    let before : length old.items ≡ c.self.inside.segments.len = ap (λ (xs : List SegmentValue). length xs) (still c ∙ sym (same c)) ∙ sym c.self.inside.segments.ok.0 in
    let after : length c.swap_remove.new.self.items ≡ c.swap_remove.new.self.len = sym c.swap_remove.new.self.ok.0 in
    record {
      len = omega (arith, len, after, c.swap_remove.ensures.len);
      within = omega (arith, before, c.if-at-len.true, c.len.ensures);
      moved = λ d more. c.swap_remove.ensures.by_index.0 d (omega (arith, more, len)) ∙ ap (λ n. get_or old.items (n - 1) d) (sym len);
      others = λ k d apart more. c.swap_remove.ensures.by_index.1 k d apart (omega (arith, more, len));
    })

-- what lies at the place
there : (c : goal.After-swap_remove) → slice_get c.args.self.now.segments c.place-at.result ≡ Some (get_or c.args.self.now.segments c.place-at.result c.swap_remove.result)
there c = slice_get-get_or c.args.self.now.segments c.place-at.result c.swap_remove.result (without c).within

pub returns-then-at-len-clause-distinct : goal.returns-then-at-len-clause-distinct
returns-then-at-len-clause-distinct c = distinct_without _ _ c.place-at.result (without c) c.requires

-- the place is that of the number
placed : (segments looked : List SegmentValue) (place number : ℕ) → place ≡ place_of looked number → looked ≡ segments → place ≡ place_of segments number
placed segments looked place number e f = e ∙ ap (λ (xs : List SegmentValue). place_of xs number) f

at : (c : goal.After-swap_remove) → c.place-at.result ≡ place_of c.args.self.now.segments c.args.seg.0
at c = c.place-at.ensures

number : (c : goal.After-swap_remove) → (get_or c.args.self.now.segments c.place-at.result c.swap_remove.result).number ≡ c.args.seg.0
number c = number_found c.args.self.now.segments c.args.seg.0 (get_or c.args.self.now.segments c.place-at.result c.swap_remove.result) (ap (slice_get c.args.self.now.segments) (sym (at c)) ∙ there c)

pub returns-then-at-len-clause-gone : goal.returns-then-at-len-clause-gone
returns-then-at-len-clause-gone c =
    ap (segment_at c.swap_remove.new.self.items) (sym (number c)) ∙ gone_without _ _ c.place-at.result _ (without c) c.requires (there c)

pub returns-then-at-len-clause-others : goal.returns-then-at-len-clause-others
returns-then-at-len-clause-others c = λ k differs.
    kept_without _ _ c.place-at.result k _ (without c) c.requires (there c) (λ e. differs (e ∙ number c))

none : (c : goal.Else-at-len) → segment_at c.args.self.now.segments c.args.seg.0 ≡ None
none c =
    let segments : c.self.inside.segments.items ≡ c.args.self.now.segments = ap (λ (a : AreaValue). a.segments) c.self.view_is in
    let at = c.place-at.ensures in
    let len : length c.args.self.now.segments ≡ c.self.inside.segments.len = ap (λ (xs : List SegmentValue). length xs) (sym segments) ∙ sym c.self.inside.segments.ok.0 in
    slice_get_past c.args.self.now.segments (place_of c.args.self.now.segments c.args.seg.0) (omega (arith, at, len, c.if-at-len.false, c.len.ensures))

pub returns-else-at-len-clause-value : goal.returns-else-at-len-clause-value
returns-else-at-len-clause-value c = sym (none c)

pub returns-else-at-len-clause-gone : goal.returns-else-at-len-clause-gone
returns-else-at-len-clause-gone c = none c
