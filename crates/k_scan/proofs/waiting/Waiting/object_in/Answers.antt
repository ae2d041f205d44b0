use Rattle.std.proofs.Common.{◌≡◌, ◌<◌, List, true, ap, sym, ◌∙◌, get_or, length, arith}
use Rattle.std.proofs.lemmas.Bool.Decides.{nat_tests}
use Rattle.k_types.specs.declared.names.Name.{Name}
use Rattle.k_types.specs.Names.{name_eq}
use Rattle.k_types.specs.State.{Object, object_at}
use Rattle.k_state.specs.Segments.{objects_in}
use Rattle.k_state.proofs.Split.{object_in, ordered_in}
use Rattle.k_scan.proofs.References.{found_there}
use Rattle.k_scan.proofs.waiting.Waiting.object_in.Goals as goal

pub returns-in-Some : goal.returns-in-Some
returns-in-Some c =
    let all = c.args.lists.now.state.objects in
    let n : Name = c.self.inside.name in
    let objects = objects_in all n.seg.0 in
    let o = c.in-Some.object.now in
    let at = c.self.inside.at in
    let told = c.in-Some.ensures.lookup in
    let within : at < length c.objects_in.result.now = let test = told.0 in grind (arith, nat_tests, test) in
    let same : c.objects_in.result.now ≡ objects = c.objects_in.ensures in
    let long = ap (λ (xs : List Object). length xs) same in
    let is : o ≡ get_or objects at o = told.1 ∙ ap (λ (xs : List Object). get_or xs at o) same in
    let named : name_eq o.name n ≡ true = ap (λ (m : Name). name_eq m n) (sym c.name.ensures) ∙ sym c.is_same_name.ensures ∙ c.if-is_same_name.true in
    found_there n objects at o (ordered_in all n.seg.0 c.setup-shape.ensures.shape.names.ordered) (omega (arith, within, long)) is named
    ∙ object_in all n
    ∙ ap (object_at all) c.self.view_is
