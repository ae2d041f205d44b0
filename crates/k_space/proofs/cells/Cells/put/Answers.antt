use Rattle.std.proofs.Common.{◌-◌, sym, ap, ◌∙◌, arith}
use Rattle.std.proofs.lemmas.Option.{slice_get_within}
use Rattle.k_space.specs.declared.cells.SlotState.TheVariants.{Free, Full}
use Rattle.k_space.specs.Cells.{CellsValue, count_held}
use Rattle.k_space.proofs.FreeSlots.{all_full, changes, count_is, first_filled, first_free, not_free, read_there}
use Rattle.k_space.proofs.cells.Cells.put.Goals as goal

pub push_reserved-requires : goal.push_reserved-requires
push_reserved-requires c =
    let states = c.self.inside.states in
    let full = all_full states.items c.self.inside.free c.self.inside.count c.self.invariant c.if-self-eq0.true in
    let held = ap (λ (v : CellsValue). count_held v) c.self.view_is in
    let room = ap (λ (v : CellsValue). v.capacity) c.self.view_is in
    omega (arith, full, c.self.invariant.counted, held, room, c.requires, states.ok.0)

pub index_mut-requires : goal.index_mut-requires
index_mut-requires c =
    let states = c.self.inside.states in
    let first = first_free states.items c.self.inside.free c.self.inside.count c.self.invariant c.if-self-eq0.false in
    omega (arith, slice_get_within states.items (c.self.inside.free - 1) (Free first.0) first.1, states.ok.0)

pub unreachable-requires : goal.unreachable-requires
unreachable-requires c =
    let states = c.self.inside.states.items in
    let first = first_free states c.self.inside.free c.self.inside.count c.self.invariant c.if-self-eq0.false in
    let within = slice_get_within states (c.self.inside.free - 1) (Free first.0) first.1 in
    let is = sym c.replace.ensures.value ∙ c.in-Full.is in
    not_free states (c.self.inside.free - 1) first.0 c.in-Full.field-0 first.1 (read_there states (c.self.inside.free - 1) c.index_mut.result.now (Full c.in-Full.field-0) within c.index_mut.ensures.value is)

pub invariant_of-self-in-Free : goal.invariant_of-self-in-Free
invariant_of-self-in-Free c =
    let states = c.self.inside.states.items in
    let first = first_free states c.self.inside.free c.self.inside.count c.self.invariant c.if-self-eq0.false in
    let within = slice_get_within states (c.self.inside.free - 1) (Free first.0) first.1 in
    let here = read_there states (c.self.inside.free - 1) c.index_mut.result.now (Free c.in-Free.next) within c.index_mut.ensures.value (sym c.replace.ensures.value ∙ c.in-Free.is) in
    rw c.replace.ensures.after (first_filled states c.self.inside.free c.self.inside.count c.in-Free.next c.args.cell c.self.invariant c.if-self-eq0.false here)

pub returns-clause-changed : goal.returns-clause-changed
returns-clause-changed c =
    let states = c.self.inside.states.items in
    let first = first_free states c.self.inside.free c.self.inside.count c.self.invariant c.if-self-eq0.false in
    rw c.replace.ensures.after (changes states _ (c.self.inside.free - 1) (Free first.0) (Full c.args.cell) c.args.self.now c.self.view_is first.1)

pub returns-clause-count : goal.returns-clause-count
returns-clause-count c =
    let states = c.self.inside.states.items in
    let first = first_free states c.self.inside.free c.self.inside.count c.self.invariant c.if-self-eq0.false in
    let is = count_is states _ (c.self.inside.free - 1) (Free first.0) (Full c.args.cell) c.args.self.now c.self.view_is first.1 in
    rw c.replace.ensures.after (omega (arith, is))
