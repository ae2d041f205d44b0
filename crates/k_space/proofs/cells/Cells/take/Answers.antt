use Rattle.std.proofs.Common.{sym, ap, ◌∙◌, is_some, arith}
use Rattle.std.proofs.lemmas.Option.{slice_get_within}
use Rattle.k_space.specs.declared.cells.SlotState.TheVariants.{Free, Full}
use Rattle.k_space.specs.Cells.{CellsValue, get}
use Rattle.k_space.proofs.FreeSlots.{changes, count_is, full_there, joined, read_there}
use Rattle.k_space.proofs.cells.Cells.take.Goals as goal

pub invariant_of-self : goal.invariant_of-self
invariant_of-self c =
    let states = c.self.inside.states.items in
    let there = full_there states c.args.slot (ap (λ (v : CellsValue). is_some (get v c.args.slot)) c.self.view_is ∙ c.requires) in
    let within = slice_get_within states c.args.slot (Full there.0) there.1 in
    let here = read_there states c.args.slot c.index_mut.result.now (Full c.in-Full.cell) within c.index_mut.ensures.value (sym c.replace.ensures.value ∙ c.in-Full.is) in
    rw c.replace.ensures.after (joined states c.self.inside.free c.self.inside.count c.args.slot c.in-Full.cell c.self.invariant here)

pub returns-clause-changed : goal.returns-clause-changed
returns-clause-changed c =
    let states = c.self.inside.states.items in
    let there = full_there states c.args.slot (ap (λ (v : CellsValue). is_some (get v c.args.slot)) c.self.view_is ∙ c.requires) in
    rw c.replace.ensures.after (changes states _ c.args.slot (Full there.0) (Free c.self.inside.free) c.args.self.now c.self.view_is there.1)

pub returns-clause-count : goal.returns-clause-count
returns-clause-count c =
    let states = c.self.inside.states.items in
    let there = full_there states c.args.slot (ap (λ (v : CellsValue). is_some (get v c.args.slot)) c.self.view_is ∙ c.requires) in
    let is = count_is states _ c.args.slot (Full there.0) (Free c.self.inside.free) c.args.self.now c.self.view_is there.1 in
    rw c.replace.ensures.after (omega (arith, is))
