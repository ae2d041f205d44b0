use Rattle.std.proofs.Common.{ℕ, List, [], ◌∷◌, ◌++◌, Option, refl, sym, ap, subst, ◌∙◌, arith, vec_capacity}
use Rattle.std.proofs.lemmas.List.{get_or_default}
use Rattle.k_types.specs.declared.names.Name.{Name}
use Rattle.k_entry.specs.declared.item.Item.{Item}
use Rattle.k_entry.specs.Slots.{blank}
use Rattle.k_lists.specs.Lists.{members}
use Rattle.k_lists.proofs.Apart.{apart_in}
use Rattle.k_entry.proofs.Members.{once_of, step, way_in}
use Rattle.k_entry.proofs.Ways.{way_shorter}
use Rattle.k_entry.proofs.Copied.{HasCopied, copy_begins, copy_ends, copy_goes_on, copy_stops}
use Rattle.k_entry.proofs.copying.copy_list.Goals as goal

pub loop-next-init : goal.loop-next-init
loop-next-init c = record {
  capacity = refl;
  copied = copy_begins (vec_capacity c.args.row.now) c.args.slots.now (members c.args.lists.now c.args.list) c.first-next.result c.args.row.now.items c.first-next.ensures.value;
}

pub bounds-slots-i : goal.bounds-slots-i
bounds-slots-i c =
    let xs = members c.args.lists.now c.args.list in
    let p = subst (λ (o : Option ℕ). HasCopied (vec_capacity c.args.row.now) c.args.slots.now xs o c.args.row.now.items c.loop-next.row.items) c.in-Some.is c.loop-next.invariant.copied in
    c.requires.slots c.in-Some.i (way_in xs p.before c.in-Some.i p.on)

pub next-next-requires : goal.next-next-requires
next-next-requires c =
    let xs = members c.args.lists.now c.args.list in
    let p = subst (λ (o : Option ℕ). HasCopied (vec_capacity c.args.row.now) c.args.slots.now xs o c.args.row.now.items c.loop-next.row.items) c.in-Some.is c.loop-next.invariant.copied in
    apart_in c.args.lists.now c.args.list c.in-Some.i c.first-next.ensures.apart (way_in xs p.before c.in-Some.i p.on)

pub loop-next-smaller : goal.loop-next-smaller
loop-next-smaller c =
    let xs = members c.args.lists.now c.args.list in
    let p = subst (λ (o : Option ℕ). HasCopied (vec_capacity c.args.row.now) c.args.slots.now xs o c.args.row.now.items c.loop-next.row.items) c.in-Some.is c.loop-next.invariant.copied in
    way_shorter xs p.before c.in-Some.i c.loop-next.next c.next-next.result c.in-Some.is
    (step xs p.before c.in-Some.i c.next-next.result (once_of c.args.lists.now c.args.list c.first-next.ensures.apart) p.on (c.next-next.ensures.value c.args.list))

pub loop-next-preserved : goal.loop-next-preserved
loop-next-preserved c =
    let xs = members c.args.lists.now c.args.list in
    let p = subst (λ (o : Option ℕ). HasCopied (vec_capacity c.args.row.now) c.args.slots.now xs o c.args.row.now.items c.loop-next.row.items) c.in-Some.is c.loop-next.invariant.copied in
    record {
      capacity = c.push_reserved.ensures.capacity ∙ c.loop-next.invariant.capacity;
      copied =
          subst (λ (ns : List Name). HasCopied (vec_capacity c.args.row.now) c.args.slots.now xs c.next-next.result c.args.row.now.items ns)
          (sym (c.push_reserved.ensures.items ∙ ap (λ (x : Item). c.loop-next.row.items ++ x.target ∷ []) (get_or_default c.args.slots.now c.in-Some.i _ blank (c.requires.slots c.in-Some.i (way_in xs p.before c.in-Some.i p.on)))))
          (copy_goes_on (vec_capacity c.args.row.now) c.args.slots.now xs c.in-Some.i c.args.row.now.items c.loop-next.row.items p c.next-next.result
          (step xs p.before c.in-Some.i c.next-next.result (once_of c.args.lists.now c.args.list c.first-next.ensures.apart) p.on (c.next-next.ensures.value c.args.list)));
    }

pub returns-then-len-capacity-clause-copied : goal.returns-then-len-capacity-clause-copied
returns-then-len-capacity-clause-copied c =
    let xs = members c.args.lists.now c.args.list in
    let p = subst (λ (o : Option ℕ). HasCopied (vec_capacity c.args.row.now) c.args.slots.now xs o c.args.row.now.items c.loop-next.row.items) c.in-Some.is c.loop-next.invariant.copied in
    copy_stops (vec_capacity c.args.row.now) c.args.slots.now xs c.in-Some.i c.args.row.now.items c.loop-next.row.items p
    (omega (arith, c.len.ensures, c.if-len-capacity.true, c.capacity.ensures, c.loop-next.invariant.capacity, c.loop-next.row.ok.0, c.loop-next.row.ok.1))

pub returns-clause-copied : goal.returns-clause-copied
returns-clause-copied c =
    let xs = members c.args.lists.now c.args.list in
    copy_ends (vec_capacity c.args.row.now) c.args.slots.now xs c.args.row.now.items c.loop-next.row.items
    (subst (λ (o : Option ℕ). HasCopied (vec_capacity c.args.row.now) c.args.slots.now xs o c.args.row.now.items c.loop-next.row.items) c.in_default.is c.loop-next.invariant.copied)
