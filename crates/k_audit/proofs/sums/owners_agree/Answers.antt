use Rattle.std.proofs.Common.{◌≡◌, ◌+◌, ◌≤◌, ◌&&◌, ◌++◌, ◌∷◌, [], List, true, false, refl, ap, ap₂, sym, ◌∙◌, length, arith}
use Rattle.std.proofs.lemmas.List.{length-append, take-append-drop}
use Rattle.std.specs.List.{list_all}
use Rattle.k_types.specs.declared.names.Heap.{Heap}
use Rattle.k_types.specs.Names.{heap_eq}
use Rattle.k_types.specs.Owners.{owner_of}
use Rattle.k_types.specs.State.{Object}
use Rattle.k_types.specs.Trace.{segment_count}
use Rattle.k_state.specs.Segments.{objects_in}
use Rattle.k_audit.specs.Agreeing.{owners_agree}
use Rattle.k_audit.proofs.Rests.{agree_next, from_first, from_last, from_next, objects_from, rest_long}
use Rattle.k_audit.proofs.sums.owners_agree.Goals as goal

pub loop-s-init : goal.loop-s-init
loop-s-init c =
    let m = c.args.lists.now in
    let whole = from_first m.state.objects in
    record {
      long = c.requires ∙ ap (λ (xs : List Object). length xs) (sym whole);
      same = ap (owners_agree (owner_of m.setup m.state) c.args.owners.now) (sym whole);
    }

pub loop-s-preserved : goal.loop-s-preserved
loop-s-preserved c =
    let m = c.args.lists.now in
    let own = owner_of m.setup m.state in
    let xs = m.state.objects in
    let k = c.loop-s.s in
    let n = length c.objects_in.result.now in
    let rest = c.loop-s.rest.now in
    let hs = c.split_at.result.0.now in
    let gs = c.split_at.result.1.now in
    let ordered = c.setup-shape.ensures.shape.names.ordered in
    let parts : rest ≡ hs ++ gs = sym (ap₂ (λ (a b : List Heap). a ++ b) c.split_at.ensures.front c.split_at.ensures.back ∙ take-append-drop n rest) in
    let long : length hs ≡ length (objects_in xs k) = c.split_at.ensures.front_len ∙ ap (λ (ys : List Object). length ys) c.objects_in.ensures in
    let passes : list_all (λ h. heap_eq h (own k)) hs ≡ true
    = ap (λ (g : Heap). list_all (λ h. heap_eq h g) hs) (sym c.owner.ensures) ∙ sym c.are_all.ensures ∙ c.if-not-are_all.false in
    record {
      long = rest_long own hs gs rest xs k ordered parts long c.loop-s.invariant.long;
      same = c.loop-s.invariant.same ∙ agree_next own hs gs rest xs k ordered parts long ∙ ap (λ b. b && owners_agree own gs (objects_from xs (k + 1))) passes;
    }

pub returns-then-not-are_all : goal.returns-then-not-are_all
returns-then-not-are_all c =
    let m = c.args.lists.now in
    let own = owner_of m.setup m.state in
    let xs = m.state.objects in
    let k = c.loop-s.s in
    let n = length c.objects_in.result.now in
    let rest = c.loop-s.rest.now in
    let hs = c.split_at.result.0.now in
    let gs = c.split_at.result.1.now in
    let ordered = c.setup-shape.ensures.shape.names.ordered in
    let parts : rest ≡ hs ++ gs = sym (ap₂ (λ (a b : List Heap). a ++ b) c.split_at.ensures.front c.split_at.ensures.back ∙ take-append-drop n rest) in
    let long : length hs ≡ length (objects_in xs k) = c.split_at.ensures.front_len ∙ ap (λ (ys : List Object). length ys) c.objects_in.ensures in
    let fails : list_all (λ h. heap_eq h (own k)) hs ≡ false
    = ap (λ (g : Heap). list_all (λ h. heap_eq h g) hs) (sym c.owner.ensures) ∙ sym c.are_all.ensures ∙ c.if-not-are_all.true in
    sym (c.loop-s.invariant.same ∙ agree_next own hs gs rest xs k ordered parts long ∙ ap (λ b. b && owners_agree own gs (objects_from xs (k + 1))) fails)

nothing : (hs : List Heap) → length hs ≡ 0 → hs ≡ []
nothing [] none = refl
nothing (h ∷ hs) none = absurd (omega (arith, none))

pub returns : goal.returns
returns c =
    let m = c.args.lists.now in
    let past : segment_count m.setup ≤ c.loop-s.s = omega (arith, c.loop-s-test.false, c.segment_count-s-end.ensures) in
    let none = from_last m.setup m.state.objects c.loop-s.s past c.setup-shape.ensures.shape.declared in
    let left = nothing c.loop-s.rest.now (c.loop-s.invariant.long ∙ ap (λ (xs : List Object). length xs) none) in
    sym (c.loop-s.invariant.same ∙ ap₂ (owners_agree (owner_of m.setup m.state)) left none)

pub split_at-requires : goal.split_at-requires
split_at-requires c =
    let xs = c.args.lists.now.state.objects in
    let k = c.loop-s.s in
    let whole = ap (λ (ys : List Object). length ys) (from_next xs k c.setup-shape.ensures.shape.names.ordered) in
    let both = length-append (objects_in xs k) (objects_from xs (k + 1)) in
    let part = ap (λ (ys : List Object). length ys) c.objects_in.ensures in
    omega (arith, whole, both, part, c.loop-s.invariant.long)
