use Rattle.std.proofs.Common.{ℕ, Option, sym, subst, ◌∙◌}
use Rattle.k_lists.specs.Lists.{members}
use Rattle.k_lists.proofs.Apart.{apart_in}
use Rattle.k_entry.proofs.Members.{once_of, step}
use Rattle.k_entry.proofs.Ways.{HasPassed, passed_there, passed_more, passed_all, way_shorter}
use Rattle.k_entry.proofs.item.find.Goals as goal

pub bounds-slots-i : goal.bounds-slots-i
bounds-slots-i c = c.requires.slots c.in-Some.i (passed_there c.args.slots.now c.args.target (members c.args.chains.now c.args.chain) c.in-Some.i (subst (λ (o : Option ℕ). HasPassed c.args.slots.now c.args.target (members c.args.chains.now c.args.chain) o) c.in-Some.is c.loop-next.invariant))

pub returns-then-is_of-clause-there : goal.returns-then-is_of-clause-there
returns-then-is_of-clause-there c = passed_there c.args.slots.now c.args.target (members c.args.chains.now c.args.chain) c.in-Some.i (subst (λ (o : Option ℕ). HasPassed c.args.slots.now c.args.target (members c.args.chains.now c.args.chain) o) c.in-Some.is c.loop-next.invariant)

pub next-next-requires : goal.next-next-requires
next-next-requires c =
    apart_in c.args.chains.now c.args.chain c.in-Some.i c.first-next.ensures.apart
    (passed_there c.args.slots.now c.args.target (members c.args.chains.now c.args.chain) c.in-Some.i (subst (λ (o : Option ℕ). HasPassed c.args.slots.now c.args.target (members c.args.chains.now c.args.chain) o) c.in-Some.is c.loop-next.invariant))

pub loop-next-smaller : goal.loop-next-smaller
loop-next-smaller c =
    let xs = members c.args.chains.now c.args.chain in
    let p = subst (λ (o : Option ℕ). HasPassed c.args.slots.now c.args.target (members c.args.chains.now c.args.chain) o) c.in-Some.is c.loop-next.invariant in
    way_shorter xs p.before c.in-Some.i c.loop-next.next c.next-next.result c.in-Some.is
    (step xs p.before c.in-Some.i c.next-next.result (once_of c.args.chains.now c.args.chain c.first-next.ensures.apart) p.on (c.next-next.ensures.value c.args.chain))

pub loop-next-preserved : goal.loop-next-preserved
loop-next-preserved c =
    let xs = members c.args.chains.now c.args.chain in
    let p = subst (λ (o : Option ℕ). HasPassed c.args.slots.now c.args.target (members c.args.chains.now c.args.chain) o) c.in-Some.is c.loop-next.invariant in
    passed_more c.args.slots.now c.args.target xs c.in-Some.i c.next-next.result p
    (step xs p.before c.in-Some.i c.next-next.result (once_of c.args.chains.now c.args.chain c.first-next.ensures.apart) p.on (c.next-next.ensures.value c.args.chain))
    (sym c.is_of.ensures ∙ c.if-is_of.false)

pub returns-clause-none : goal.returns-clause-none
returns-clause-none c = passed_all c.args.slots.now c.args.target (members c.args.chains.now c.args.chain) (subst (λ (o : Option ℕ). HasPassed c.args.slots.now c.args.target (members c.args.chains.now c.args.chain) o) (c.in_default.is) c.loop-next.invariant)
