use Rattle.std.proofs.Common.{◌≡◌, List, Option, Bool, length, map, ap, sym, ◌∙◌}
use Rattle.std.proofs.lemmas.List.{length-map}
use Rattle.k_types.specs.declared.names.Heap.{Heap}
use Rattle.k_types.specs.Effects.{exit_after}
use Rattle.k_types.specs.State.{ExitItem, Sharing}
use Rattle.k_state.specs.Marks.{turned_items}
use Rattle.k_scan.proofs.Ends.{exits_still, of_others, process_ends, shares_still}
use Rattle.k_scan.proofs.changes.end_of_process.Goals as goal

pub turn_exits-requires : goal.turn_exits-requires
turn_exits-requires c =
    let m = c.args.lists.now in
    let p = c.args.pid.0 in
    let heaps = c.deref.result.now in
    let first = c.end_process.new.self.state in
    let turned : turned_items heaps m.state.exits ≡ map (exit_after m.setup m.state p) m.state.exits
    = ap (λ (hs : List (Option Heap)). turned_items hs m.state.exits) c.deref.ensures.value ∙ c.in_ok-heaps.ensures.heaps in
    ap (λ (hs : List (Option Heap)). length hs) c.deref.ensures.value
    ∙ c.in_ok-heaps.ensures.size
    ∙ ap (λ (xs : List ExitItem). length xs)
    (sym (exits_still m.setup p m.state first first first first heaps c.in_ok-stays.stays.items turned c.in_ok-stays.ensures c.in_ok-end_process.ensures.ok))

pub keep_shares-requires : goal.keep_shares-requires
keep_shares-requires c =
    let m = c.args.lists.now in
    let p = c.args.pid.0 in
    let heaps = c.deref.result.now in
    let second = c.turn_exits.new.self.state in
    let turned : turned_items heaps m.state.exits ≡ map (exit_after m.setup m.state p) m.state.exits
    = ap (λ (hs : List (Option Heap)). turned_items hs m.state.exits) c.deref.ensures.value ∙ c.in_ok-heaps.ensures.heaps in
    let stays : c.deref-2.result.now ≡ map (of_others p) m.state.shares = c.deref-2.ensures.value ∙ c.in_ok-stays.ensures in
    ap (λ (bs : List Bool). length bs) stays
    ∙ length-map m.state.shares (of_others p)
    ∙ ap (λ (xs : List Sharing). length xs)
    (sym (shares_still m.setup p m.state c.end_process.new.self.state second second second heaps c.deref-2.result.now turned stays c.in_ok-end_process.ensures.ok c.turn_exits.ensures.state))

pub returns-clause-ok : goal.returns-clause-ok
returns-clause-ok c =
    let m = c.args.lists.now in
    let p = c.args.pid.0 in
    let heaps = c.deref.result.now in
    let turned : turned_items heaps m.state.exits ≡ map (exit_after m.setup m.state p) m.state.exits
    = ap (λ (hs : List (Option Heap)). turned_items hs m.state.exits) c.deref.ensures.value ∙ c.in_ok-heaps.ensures.heaps in
    process_ends m.setup p m.state c.end_process.new.self.state c.turn_exits.new.self.state c.keep_shares.new.self.state c.clear_registers.new.self.state heaps c.deref-2.result.now turned
    (c.deref-2.ensures.value ∙ c.in_ok-stays.ensures) c.in_ok-end_process.ensures.ok c.turn_exits.ensures.state c.keep_shares.ensures.state c.clear_registers.ensures.state
