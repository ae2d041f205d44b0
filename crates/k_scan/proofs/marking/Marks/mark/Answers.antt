use Rattle.std.proofs.Common.{◌≡◌, ◌<◌, ℕ, Bool, true, false, not, refl, List, [], ap, subst, sym, ◌∙◌, length, get_or, set, arith}
use Rattle.std.proofs.lemmas.Bool.{false≢true}
use Rattle.std.proofs.lemmas.List.{get_or_read, set-get_or}
use Rattle.k_state.specs.Places.{IsNamedAt}
use Rattle.k_state.specs.Segments.{objects_in}
use Rattle.k_types.specs.declared.names.Name.{Name}
use Rattle.k_types.specs.State.{Object}
use Rattle.k_scan.specs.Marks.{IsMarked, lengths}
use Rattle.k_scan.proofs.Looks.{mark_again, mark_new}
use Rattle.k_scan.proofs.Marks.{length_at, list_there}
use Rattle.k_scan.proofs.marking.Marks.mark.Goals as goal

-- the place of the object among the marks of its segment
bounds : (xs : List Object) (marks old : List (List Bool)) (n : Name) (k : ℕ) → marks ≡ old → IsNamedAt (objects_in xs n.seg.0) k n →
    get_or (lengths old) n.seg.0 0 ≡ length (objects_in xs n.seg.0) → (n.seg.0 < length marks) × (k < length (get_or marks n.seg.0 []))
bounds xs marks old n k is named sized =
    let within : k < length (get_or marks n.seg.0 [])
    = (let long = sym (length_at marks n.seg.0) ∙ ap (λ (ms : List (List Bool)). get_or (lengths ms) n.seg.0 0) is ∙ sized in omega (arith, long, named.0)) in
    (list_there marks n.seg.0 k within, within)

pub index_mut-marks-requires : goal.index_mut-marks-requires
index_mut-marks-requires c =
    let marks = c.self.inside.segments.items in
    let n = c.args.name in
    let at = bounds c.args.lists.now.state.objects marks c.args.self.now n c.in-Some.at c.self.view_is c.in-Some.ensures.some (c.requires c.in-Some.ensures.known) in
    subst (λ k. n.seg.0 < k) (sym c.self.inside.segments.ok.0) at.0

pub set-requires : goal.set-requires
set-requires c =
    let marks = c.self.inside.segments.items in
    let n = c.args.name in
    let at = bounds c.args.lists.now.state.objects marks c.args.self.now n c.in-Some.at c.self.view_is c.in-Some.ensures.some (c.requires c.in-Some.ensures.known) in
    subst (λ (list : List Bool). c.in-Some.at < length list) (sym (get_or_read marks n.seg.0 c.index_mut-marks.result.now at.0 c.index_mut-marks.ensures.value [])) at.1

not_fresh : (b : Bool) → false ≡ not b → b ≡ true
not_fresh true e = refl
not_fresh false e = absurd (false≢true e)

is_fresh : (b : Bool) → true ≡ not b → b ≡ false
is_fresh false e = refl
is_fresh true e = absurd (false≢true (sym e))

module _ (xs : List Object) (marks old : List (List Bool)) (n : Name) (k : ℕ) (list new : List Bool) (is : marks ≡ old) (named : IsNamedAt (objects_in xs n.seg.0) k n)
    (sized : get_or (lengths old) n.seg.0 0 ≡ length (objects_in xs n.seg.0)) (read : list ≡ get_or marks n.seg.0 list) (done : new ≡ set list k true) where
  got : list ≡ get_or marks n.seg.0 []
  got = get_or_read marks n.seg.0 list (bounds xs marks old n k is named sized).0 read []

  again : get_or list k false ≡ true → IsMarked xs n old (set marks n.seg.0 new) false
  again t =
      let there : set marks n.seg.0 new ≡ marks
      = ap (set marks n.seg.0) (done ∙ ap (set list k) (sym t) ∙ set-get_or list k false ∙ got) ∙ set-get_or marks n.seg.0 [] in
      subst (λ ms. IsMarked xs n old ms false) (sym (there ∙ is))
      (mark_again xs n old k named (ap (λ ms. get_or (get_or ms n.seg.0 []) k false) (sym is) ∙ ap (λ (ys : List Bool). get_or ys k false) (sym got) ∙ t))

  first : get_or list k false ≡ false → IsMarked xs n old (set marks n.seg.0 new) true
  first f =
      let here : set marks n.seg.0 new ≡ set marks n.seg.0 (set (get_or marks n.seg.0 []) k true)
      = ap (set marks n.seg.0) (done ∙ ap (λ (ys : List Bool). set ys k true) got) in
      let at = bounds xs marks old n k is named sized in
      subst (λ ms. IsMarked xs n ms (set marks n.seg.0 new) true) is
      (subst (λ ms. IsMarked xs n marks ms true) (sym here)
      (mark_new xs n marks k named at.1 at.0 (ap (λ (ys : List Bool). get_or ys k false) (sym got) ∙ f)))

pub returns-then-not-set : goal.returns-then-not-set
returns-then-not-set c =
    again c.args.lists.now.state.objects c.self.inside.segments.items c.args.self.now c.args.name c.in-Some.at c.index_mut-marks.result.now c.set.new.self c.self.view_is c.in-Some.ensures.some
    (c.requires c.in-Some.ensures.known) c.index_mut-marks.ensures.value c.set.ensures.marks
    (not_fresh (get_or c.index_mut-marks.result.now c.in-Some.at false) (sym c.if-not-set.true ∙ c.set.ensures.fresh))

pub returns : goal.returns
returns c =
    first c.args.lists.now.state.objects c.self.inside.segments.items c.args.self.now c.args.name c.in-Some.at c.index_mut-marks.result.now c.set.new.self c.self.view_is c.in-Some.ensures.some
    (c.requires c.in-Some.ensures.known) c.index_mut-marks.ensures.value c.set.ensures.marks
    (is_fresh (get_or c.index_mut-marks.result.now c.in-Some.at false) (sym c.if-not-set.false ∙ c.set.ensures.fresh))
