use Rattle.std.proofs.Common.{ℕ, List, Option, length, sym, ap, subst, ◌∙◌, arith}
use Rattle.k_lists.specs.Lists.{members}
use Rattle.k_entry.specs.Slots.{walk_of, first_slot}
use Rattle.k_lists.proofs.Apart.{apart_in}
use Rattle.k_entry.proofs.Members.{once_of, step}
use Rattle.k_entry.proofs.Ways.{LooksOn, look_from, looked_in, looked_here, looked_more, way_shorter, own_step}
use Rattle.k_entry.proofs.walks.first_from.Goals as goal

pub loop-next-init : goal.loop-next-init
loop-next-init c = look_from c.args.homes.now c.args.heap (members c.args.walks.now (walk_of (length c.args.homes.now) c.args.heap)) c.args.from c.requires.from

pub bounds-homes-seg : goal.bounds-homes-seg
bounds-homes-seg c =
    let walk = walk_of (length c.args.homes.now) c.args.heap in
    let l = subst (λ (o : Option ℕ). LooksOn c.args.homes.now c.args.heap (members c.args.walks.now walk) c.args.from o) c.in-Some.is c.loop-next.invariant in
    omega (arith, c.requires.homes, apart_in c.args.walks.now walk c.in-Some.seg c.requires.apart (looked_in c.args.homes.now c.args.heap (members c.args.walks.now walk) c.args.from c.in-Some.seg l))

pub first-requires : goal.first-requires
first-requires c =
    let walk = walk_of (length c.args.homes.now) c.args.heap in
    let l = subst (λ (o : Option ℕ). LooksOn c.args.homes.now c.args.heap (members c.args.walks.now walk) c.args.from o) c.in-Some.is c.loop-next.invariant in
    omega (arith, c.requires.homes, c.requires.lists, apart_in c.args.walks.now walk c.in-Some.seg c.requires.apart (looked_in c.args.homes.now c.args.heap (members c.args.walks.now walk) c.args.from c.in-Some.seg l))

pub next-next-requires : goal.next-next-requires
next-next-requires c =
    let walk = walk_of (length c.args.homes.now) c.args.heap in
    let l = subst (λ (o : Option ℕ). LooksOn c.args.homes.now c.args.heap (members c.args.walks.now walk) c.args.from o) c.in-Some.is c.loop-next.invariant in
    apart_in c.args.walks.now walk c.in-Some.seg c.requires.apart (looked_in c.args.homes.now c.args.heap (members c.args.walks.now walk) c.args.from c.in-Some.seg l)

pub returns-then-is_same : goal.returns-then-is_same
returns-then-is_same c =
    let walk = walk_of (length c.args.homes.now) c.args.heap in
    let xs = members c.args.walks.now walk in
    let l = subst (λ (o : Option ℕ). LooksOn c.args.homes.now c.args.heap xs c.args.from o) c.in-Some.is c.loop-next.invariant in
    let s = own_step xs l.before c.in-Some.seg (once_of c.args.walks.now walk c.requires.apart) l.on in
    c.first.ensures.value ∙ sym (ap (λ (ys : List ℕ). first_slot c.args.segments.now ys) (looked_here c.args.homes.now c.args.heap xs c.args.from s.0 c.in-Some.seg l s.1 (sym c.is_same.ensures ∙ c.if-is_same.true)))

pub loop-next-smaller : goal.loop-next-smaller
loop-next-smaller c =
    let walk = walk_of (length c.args.homes.now) c.args.heap in
    let xs = members c.args.walks.now walk in
    let l = subst (λ (o : Option ℕ). LooksOn c.args.homes.now c.args.heap xs c.args.from o) c.in-Some.is c.loop-next.invariant in
    way_shorter xs l.before c.in-Some.seg c.loop-next.next c.next-next.result c.in-Some.is
    (step xs l.before c.in-Some.seg c.next-next.result (once_of c.args.walks.now walk c.requires.apart) l.on (c.next-next.ensures.value walk))

pub loop-next-preserved : goal.loop-next-preserved
loop-next-preserved c =
    let walk = walk_of (length c.args.homes.now) c.args.heap in
    let xs = members c.args.walks.now walk in
    let l = subst (λ (o : Option ℕ). LooksOn c.args.homes.now c.args.heap xs c.args.from o) c.in-Some.is c.loop-next.invariant in
    looked_more c.args.homes.now c.args.heap xs c.args.from c.next-next.result c.in-Some.seg l
    (step xs l.before c.in-Some.seg c.next-next.result (once_of c.args.walks.now walk c.requires.apart) l.on (c.next-next.ensures.value walk))
    (sym c.is_same.ensures ∙ c.if-is_same.false)
