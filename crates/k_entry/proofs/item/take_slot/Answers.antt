use Rattle.std.proofs.Common.{◌≡◌, ℕ, List, length, sym, ap, subst, arith}
use Rattle.k_lists.specs.Lists.{members}
use Rattle.k_entry.specs.declared.item.Item.{Item}
use Rattle.k_entry.specs.Slots.{GivesSlot}
use Rattle.k_entry.proofs.Given.{given_again, given_new, first_in, first_none}
use Rattle.k_entry.proofs.item.take_slot.Goals as goal

pub remove-requires : goal.remove-requires
remove-requires c = first_in (members c.args.segments.now c.args.free) c.in-Some.i c.in-Some.ensures.value

pub index_mut-requires : goal.index_mut-requires
index_mut-requires c = omega (arith, c.args.slots.now.ok.0, c.requires.fresh c.args.free c.in-Some.i (first_in (members c.args.segments.now c.args.free) c.in-Some.i c.in-Some.ensures.value))

pub overflow_cast-i-in-None : goal.overflow_cast-i-in-None
overflow_cast-i-in-None c =
    let none : length (members c.args.segments.now c.args.free) ≡ 0 = ap (λ (xs : List ℕ). length xs) (first_none (members c.args.segments.now c.args.free) c.in-None.ensures.value) in
    omega (arith, c.args.slots.now.ok.0, c.requires.room none, c.requires.small)

pub push_reserved-requires : goal.push_reserved-requires
push_reserved-requires c =
    let none : length (members c.args.segments.now c.args.free) ≡ 0 = ap (λ (xs : List ℕ). length xs) (first_none (members c.args.segments.now c.args.free) c.in-None.ensures.value) in
    omega (arith, c.args.slots.now.ok.0, c.requires.room none, c.requires.reserved)

pub returns-in-Some-clause-given : goal.returns-in-Some-clause-given
returns-in-Some-clause-given c =
    let there = first_in (members c.args.segments.now c.args.free) c.in-Some.i c.in-Some.ensures.value in
    given_again c.args.slots.now.items c.args.segments.now c.remove.new.self c.args.free c.in-Some.i c.args.item c.requires.apart
    (record { within = c.requires.list; is = c.remove.ensures.removed }) there (c.requires.fresh c.args.free c.in-Some.i there)

pub returns-in-None-clause-given : goal.returns-in-None-clause-given
returns-in-None-clause-given c =
    let none : length (members c.args.segments.now c.args.free) ≡ 0 = ap (λ (xs : List ℕ). length xs) (first_none (members c.args.segments.now c.args.free) c.in-None.ensures.value) in
    subst (λ i. GivesSlot c.args.slots.now.items c.push_reserved.new.self.items c.args.segments.now c.args.segments.now c.args.free i c.args.item) (omega (arith, c.args.slots.now.ok.0, c.len-i.ensures))
    (subst (λ (xs : List Item). GivesSlot c.args.slots.now.items xs c.args.segments.now c.args.segments.now c.args.free (length c.args.slots.now.items) c.args.item) (sym c.push_reserved.ensures.items)
    (given_new c.args.slots.now.items c.args.segments.now c.args.free c.args.item c.requires.fresh none))
