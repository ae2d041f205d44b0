use Rattle.std.proofs.Common.{◌≡◌, ap, ap₂, subst, sym, ◌∙◌, option_map, IsFalse, IsTrue, Option, Some}
use Rattle.std.proofs.lemmas.Bool.{not-false, not-true}
use Rattle.k_types.specs.declared.names.Name.{Name}
use Rattle.k_types.specs.Names.{heap_eq, name_among, name_of}
use Rattle.k_commit.specs.Others.{OtherValue}
use Rattle.k_pair.specs.Remembered.{HasRemembered, owners_of}
use Rattle.k_pair.proofs.Exits.{again_remembered, newly_remembered, own_remembered}
use Rattle.k_pair.proofs.remembering.remember.Goals as goal

pub returns-then-is_same : goal.returns-then-is_same
returns-then-is_same g c =
    let o = g.O.OtherCell.seen c.args.other.now in
    let own = owners_of g.S.StepName.before in
    let y : Name = name_of c.in-Some.target in
    let value : option_map name_of c.args.value ≡ Some y = ap (option_map name_of) c.in-Some.is in
    let here : IsTrue (heap_eq o.cell (own y.seg.0)) =
    sym (ap₂ heap_eq c.heap.ensures (c.owner.ensures ∙ c.requires.told.owners y value)) ∙ sym c.is_same.ensures ∙ c.if-is_same.true in
    subst (λ (v : Option Name). HasRemembered own o o c.args.book.now c.args.book.now v) (sym value) (own_remembered own o c.args.book.now y here)

pub returns-then-add_exit : goal.returns-then-add_exit
returns-then-add_exit g c =
    let o = g.O.OtherCell.seen c.args.other.now in
    let own = owners_of g.S.StepName.before in
    let y : Name = name_of c.in-Some.target in
    let value : option_map name_of c.args.value ≡ Some y = ap (option_map name_of) c.in-Some.is in
    let elsewhere : IsFalse (heap_eq o.cell (own y.seg.0)) =
    sym (ap₂ heap_eq c.heap.ensures (c.owner.ensures ∙ c.requires.told.owners y value)) ∙ sym c.is_same.ensures ∙ c.if-is_same.false in
    let new : IsFalse (name_among y o.held.value.exits) = not-true _ (sym c.add_exit.ensures.value ∙ c.if-add_exit.true) in
    subst (λ (v : Option Name). HasRemembered own o (g.O.OtherCell.seen c.add_exit.new.self) c.args.book.now c.enter.new.self v) (sym value)
    (subst (λ (h : OtherValue). HasRemembered own o h c.args.book.now c.enter.new.self (Some y)) (sym c.add_exit.ensures.added)
    (newly_remembered own o c.args.book.now y elsewhere c.enter.new.self new c.enter.ensures.more c.enter.ensures.rest))

pub returns-else-add_exit : goal.returns-else-add_exit
returns-else-add_exit g c =
    let o = g.O.OtherCell.seen c.args.other.now in
    let own = owners_of g.S.StepName.before in
    let y : Name = name_of c.in-Some.target in
    let value : option_map name_of c.args.value ≡ Some y = ap (option_map name_of) c.in-Some.is in
    let elsewhere : IsFalse (heap_eq o.cell (own y.seg.0)) =
    sym (ap₂ heap_eq c.heap.ensures (c.owner.ensures ∙ c.requires.told.owners y value)) ∙ sym c.is_same.ensures ∙ c.if-is_same.false in
    let there : IsTrue (name_among y o.held.value.exits) = not-false _ (sym c.add_exit.ensures.value ∙ c.if-add_exit.false) in
    subst (λ (v : Option Name). HasRemembered own o (g.O.OtherCell.seen c.add_exit.new.self) c.args.book.now c.args.book.now v) (sym value)
    (subst (λ (h : OtherValue). HasRemembered own o h c.args.book.now c.args.book.now (Some y)) (sym c.add_exit.ensures.added)
    (again_remembered own o c.args.book.now y elsewhere there))
