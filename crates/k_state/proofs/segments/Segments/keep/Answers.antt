use Rattle.std.proofs.Common.{◌≡◌, ◌<◌, ◌==◌, ◌||◌, ℕ, not, filter, map, [], List, ap, ap₂, sym, ◌∙◌, subst, length, length-set, get_or, set, arith}
use Rattle.std.proofs.lemmas.List.{get_or_read}
use Rattle.k_laws.proofs.Lists.{length-kept}
use Rattle.k_types.specs.Owners.{object_bytes}
use Rattle.k_types.specs.State.{Object}
use Rattle.k_types.specs.Totals.{total}
use Rattle.k_state.specs.Marks.{marked}
use Rattle.k_state.specs.Segments.{AreOf, Segmented, joined, objects_in}
use Rattle.k_state.proofs.Marked.{length_marked}
use Rattle.k_state.proofs.Split.{in_at, kept_is, kept_of, kept_others, kept_own, kept_passing, kept_some}
use Rattle.k_state.proofs.segments.Segments.keep.Goals as goal

-- the list of a segment
list_is : (lists : List (List Object)) (totals : List ℕ) (s : ℕ) (list : List Object) (v : Segmented) → record { objects = joined lists; totals = totals } ≡ v → AreOf 0 lists →
    length lists ≡ length totals → s < length v.totals → list ≡ get_or lists s list → (s < length lists) × (list ≡ get_or lists s []) × (get_or lists s [] ≡ objects_in v.objects s)
list_is lists totals s list v is of same low found =
    let known : s < length totals = subst (λ (w : Segmented). s < length w.totals) (sym is) low in
    let inside : s < length lists = omega (arith, known, same) in
    (inside, get_or_read lists s list inside found [], sym (in_at s lists of) ∙ ap (λ (w : Segmented). objects_in w.objects s) is)

pub keep-requires : goal.keep-requires
keep-requires c =
    let l = list_is c.self.inside.lists.items c.self.inside.totals.items c.args.seg.0 c.index_mut-list.result.now c.args.self.now c.self.view_is c.self.invariant.0 c.self.invariant.1 c.requires.seg c.index_mut-list.ensures.value in
    c.requires.marks ∙ ap (λ (xs : List Object). length xs) (sym (l.1 ∙ l.2))

pub bytes_of-requires : goal.bytes_of-requires
bytes_of-requires c =
    let l = list_is c.self.inside.lists.items c.self.inside.totals.items c.args.seg.0 c.index_mut-list.result.now c.args.self.now c.self.view_is c.self.invariant.0 c.self.invariant.1 c.requires.seg c.index_mut-list.ensures.value in
    let all = ap (λ (xs : List Object). length xs) (c.all.ensures ∙ c.keep.ensures ∙ ap (marked c.args.stays.now) (l.1 ∙ l.2)) in
    let fewer = length_marked c.args.stays.now (objects_in c.args.self.now.objects c.args.seg.0) in
    let less = length-kept (λ (o : Object). o.name.seg.0 == c.args.seg.0) c.args.self.now.objects in
    omega (arith, all, fewer, less, c.requires.few)

pub invariant_of-self : goal.invariant_of-self
invariant_of-self c =
    let lists = c.self.inside.lists.items in
    let totals = c.self.inside.totals.items in
    let s = c.args.seg.0 in
    let l = list_is lists totals s c.index_mut-list.result.now c.args.self.now c.self.view_is c.self.invariant.0 c.self.invariant.1 c.requires.seg c.index_mut-list.ensures.value in (
      kept_of lists s c.args.stays.now c.keep.new.self c.self.invariant.0 l.0 (c.keep.ensures ∙ ap (marked c.args.stays.now) l.1),
      length-set lists s c.keep.new.self ∙ c.self.invariant.1 ∙ sym (length-set totals s c.bytes_of.result),
    )

pub returns-clause-own : goal.returns-clause-own
returns-clause-own c =
    let lists = c.self.inside.lists.items in
    let s = c.args.seg.0 in
    let l = list_is lists c.self.inside.totals.items s c.index_mut-list.result.now c.args.self.now c.self.view_is c.self.invariant.0 c.self.invariant.1 c.requires.seg c.index_mut-list.ensures.value in
    kept_own lists s c.args.stays.now c.keep.new.self c.self.invariant.0 l.0 (c.keep.ensures ∙ ap (marked c.args.stays.now) l.1)
    ∙ ap (λ (w : Segmented). marked c.args.stays.now (objects_in w.objects s)) c.self.view_is

pub returns-clause-others : goal.returns-clause-others
returns-clause-others c = λ k apart.
    let lists = c.self.inside.lists.items in
    let s = c.args.seg.0 in
    let l = list_is lists c.self.inside.totals.items s c.index_mut-list.result.now c.args.self.now c.self.view_is c.self.invariant.0 c.self.invariant.1 c.requires.seg c.index_mut-list.ensures.value in
    kept_others lists s c.args.stays.now c.keep.new.self c.self.invariant.0 l.0 (c.keep.ensures ∙ ap (marked c.args.stays.now) l.1) k apart
    ∙ ap (λ (w : Segmented). objects_in w.objects k) c.self.view_is

pub returns-clause-some : goal.returns-clause-some
returns-clause-some c =
    let lists = c.self.inside.lists.items in
    let s = c.args.seg.0 in
    let l = list_is lists c.self.inside.totals.items s c.index_mut-list.result.now c.args.self.now c.self.view_is c.self.invariant.0 c.self.invariant.1 c.requires.seg c.index_mut-list.ensures.value in
    let some = kept_some lists s c.args.stays.now c.keep.new.self c.self.invariant.0 l.0 (c.keep.ensures ∙ ap (marked c.args.stays.now) l.1)
    (c.requires.marks ∙ ap (λ (xs : List Object). length xs) (sym l.2)) in
    (some.0, some.1 ∙ ap (λ (w : Segmented). marked some.0 w.objects) c.self.view_is)

pub returns-clause-passing : goal.returns-clause-passing
returns-clause-passing c = λ passes say.
    let lists = c.self.inside.lists.items in
    let s = c.args.seg.0 in
    let l = list_is lists c.self.inside.totals.items s c.index_mut-list.result.now c.args.self.now c.self.view_is c.self.invariant.0 c.self.invariant.1 c.requires.seg c.index_mut-list.ensures.value in
    kept_passing lists s c.args.stays.now c.keep.new.self c.self.invariant.0 l.0 (c.keep.ensures ∙ ap (marked c.args.stays.now) l.1) passes
    (say ∙ ap (λ (w : Segmented). map (λ (o : Object). passes o.name) (objects_in w.objects s)) (sym c.self.view_is))
    ∙ ap (λ (w : Segmented). filter (λ (o : Object). not (o.name.seg.0 == s) || passes o.name) w.objects) c.self.view_is

pub returns-clause-totals : goal.returns-clause-totals
returns-clause-totals c =
    let lists = c.self.inside.lists.items in
    let s = c.args.seg.0 in
    let l = list_is lists c.self.inside.totals.items s c.index_mut-list.result.now c.args.self.now c.self.view_is c.self.invariant.0 c.self.invariant.1 c.requires.seg c.index_mut-list.ensures.value in
    let is = kept_is lists s c.args.stays.now c.keep.new.self c.self.invariant.0 l.0 (c.keep.ensures ∙ ap (marked c.args.stays.now) l.1) in
    ap₂ (λ (w : Segmented) b. set w.totals s b) c.self.view_is (c.bytes_of.ensures ∙ ap (total object_bytes) (c.all.ensures ∙ is))
