use Rattle.std.proofs.Common.{◌≡◌, ℕ, List, map, sym, ap, ◌∙◌, length, slice_get, subst, take, drop, ◌++◌, false, Some}
use Rattle.std.proofs.lemmas.List.{length-map}
use Rattle.k_space.specs.Segments.{SegmentValue, row_at, some_gray}
use Rattle.k_space.specs.Areas.{AreaValue, blackened, blackened_in}
use Rattle.k_space.specs.declared.bound.Bound.{Bound}
use Rattle.k_space.proofs.Rows.{front_whole}
use Rattle.k_space.proofs.Blackened.{segments_plain}
use Rattle.k_space.proofs.area.Area.blacken_covered.Goals as goal

-- the segments after the pass
items : (bound : Bound) (segments looked after : List SegmentValue) (len : ℕ) → after ≡ map (blackened_in bound) looked → looked ≡ segments → len ≡ length segments → take len (after ++ drop (length after) segments) ≡ map (blackened_in bound) segments
items bound segments looked after len new read whole =
    let is : after ≡ map (blackened_in bound) segments = new ∙ ap (λ (ss : List SegmentValue). map (blackened_in bound) ss) read in
    front_whole after (drop (length after) segments) len (ap (λ (ss : List SegmentValue). length ss) is ∙ length-map segments (blackened_in bound) ∙ sym whole) ∙ is

pub blacken-requires : goal.blacken-requires
blacken-requires c =
    let plain = segments_plain c.args.self.now.segments c.requires.distinct c.requires.none in
    subst (λ (ss : List SegmentValue). (i : ℕ) (s : SegmentValue) → slice_get ss i ≡ Some s → (serial : ℕ) → some_gray (row_at s serial) ≡ false) (sym (c.deref_mut.ensures.value ∙ ap (λ (a : AreaValue). a.segments) c.self.view_is)) plain

pub returns : goal.returns
returns c =
    let items_are = items c.args.bound c.self.inside.segments.items c.deref_mut.result.now c.blacken.new.segments c.self.inside.segments.len c.blacken.ensures c.deref_mut.ensures.value c.self.inside.segments.ok.0 in
    ap (λ (ss : List SegmentValue). record { segments = ss; room = c.self.inside.room }) items_are
    ∙ ap (λ (a : AreaValue). blackened c.args.bound a) c.self.view_is
