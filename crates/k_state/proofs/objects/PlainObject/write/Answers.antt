use Rattle.std.proofs.Common.{rules, ◌≡◌, true, refl}
use Rattle.k_types.specs.Names.{name_eq}
use Rattle.k_state.specs.Contents.{content}
use Rattle.k_state.proofs.Changes.{map-set}
use Rattle.k_state.proofs.objects.PlainObject.write.Goals as goal

pub returns-then-i-len : goal.returns-then-i-len
returns-then-i-len c =
    let o = c.self.inside in
    let same : name_eq o.name c.args.name ≡ true = search (rules, c.is_same_name.ensures, c.if-is_same_name.true) in
    rw (← c.self.view_is, same, map-set content o.fields.items c.args.i c.args.value) refl
