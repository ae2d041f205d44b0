use Rattle.std.proofs.Common.{◌≡◌, ◌≤◌, ap, sym, subst, ◌∙◌, refl, find, inl, inr, length, slice_get, Option, Some, None, arith}
use Rattle.std.specs.Prelude.{option_map}
use Rattle.std.proofs.lemmas.Bool.{cases_lt, false≢true, lt-ltb, ltb-true}
use Rattle.std.proofs.lemmas.Option.{slice_get_past, slice_get_read}
use Rattle.k_types.specs.declared.names.Name.{Name}
use Rattle.k_types.specs.Sound.{IsOrdered}
use Rattle.k_types.specs.State.{Object}
use Rattle.k_types.specs.Trace.{segment_count}
use Rattle.k_state.specs.Segments.{objects_in}
use Rattle.k_state.proofs.Split.{ordered_in}
use Rattle.k_text.specs.Shown.{comes_after, next_name_after}
use Rattle.k_solo.proofs.NextObjects.{next_at, next_other, next_own, next_past}
use Rattle.k_solo.proofs.shown.next_object.Goals as goal

pub returns-then-name-segment_count : goal.returns-then-name-segment_count
returns-then-name-segment_count c =
    let m = c.args.lists.now in
    let xs = m.state.objects in
    let n = c.in-Some.name in
    let past : segment_count m.setup ≤ n.seg.0 = omega (arith, c.if-name-segment_count.true, c.segment_count.ensures) in
    sym (ap (λ (after : Option Name). next_name_after after xs) c.in-Some.is
    ∙ ap (option_map (λ (o : Object). o.name)) (next_past m.setup xs n past c.setup-shape.ensures.shape.declared))

pub place_after-requires : goal.place_after-requires
place_after-requires c =
    subst IsOrdered (sym c.objects_in-objects.ensures) (ordered_in c.args.lists.now.state.objects c.in-Some.name.seg.0 c.setup-shape.ensures.shape.names.ordered)

pub returns-in-Some-get : goal.returns-in-Some-get
returns-in-Some-get c =
    let xs = c.args.lists.now.state.objects in
    let n = c.in-Some.name in
    let own = c.objects_in-objects.result.now in
    let at = c.place_after.result in
    let o : Object = c.in-Some-get.object.now in
    let told = c.in-Some-get.ensures.lookup in
    let found : slice_get own at ≡ Some o = slice_get_read own (length own) at o refl (ltb-true at (length own) (sym told.0)) told.1 in
    let next : find (comes_after (Some n)) (objects_in xs n.seg.0) ≡ Some o
    = ap (find (comes_after (Some n))) (sym c.objects_in-objects.ensures) ∙ next_at n own at c.place_after.ensures ∙ found in
    ap (λ (m : Name). Some m) c.name.ensures
    ∙ sym (ap (λ (after : Option Name). next_name_after after xs) c.in-Some.is
    ∙ ap (option_map (λ (x : Object). x.name)) (next_own xs n o c.setup-shape.ensures.shape.names.ordered next))

pub returns-in-None : goal.returns-in-None
returns-in-None c =
    let xs = c.args.lists.now.state.objects in
    let n = c.in-Some.name in
    let own = c.objects_in-objects.result.now in
    let at = c.place_after.result in
    let past : length own ≤ at
    = elim (cases_lt at (length own)) [
      | inl low ↦ absurd (false≢true (c.in-None.ensures.lookup.0 ∙ lt-ltb at (length own) low))
      | inr past ↦ past
    ] in
    let none : find (comes_after (Some n)) (objects_in xs n.seg.0) ≡ None
    = ap (find (comes_after (Some n))) (sym c.objects_in-objects.ensures) ∙ next_at n own at c.place_after.ensures ∙ slice_get_past own at past in
    c.first_from-in-None.ensures
    ∙ sym (ap (λ (after : Option Name). next_name_after after xs) c.in-Some.is
    ∙ ap (option_map (λ (x : Object). x.name)) (next_other xs n c.setup-shape.ensures.shape.names.ordered none))
