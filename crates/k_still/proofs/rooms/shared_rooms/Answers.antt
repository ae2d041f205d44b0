use Rattle.std.proofs.Common.{◌≡◌, ◌+◌, List, ℕ, length, refl, sym, ap, ap₂, ◌∙◌, subst, arith}
use Rattle.k_types.specs.declared.op.Op.{Op}
use Rattle.k_laws.specs.Counts.{stores_in}
use Rattle.k_trace.specs.Meaning.{meaning_of}
use Rattle.k_process.proofs.Looped.{all_of}
use Rattle.k_still.specs.Opening.{CanRaise, raised}
use Rattle.k_still.proofs.Tables.{exit_room_low}
use Rattle.k_still.proofs.Passes.{listed_end, known, own, own_short}
use Rattle.k_still.proofs.Raised.{all_raised, can_raise, first_raised, next_raised}
use Rattle.k_still.proofs.rooms.shared_rooms.Goals as goal

pub overflow_add-most : goal.overflow_add-most
overflow_add-most c = omega (arith, c.all_stores-most.ensures, exit_room_low (meaning_of c.args.trace.now).trace c.requires.rules)

pub loop-ops-init : goal.loop-ops-init
loop-ops-init c =
    first_raised (meaning_of c.args.trace.now).trace c.requires.rules _ c.in_ok-rooms.rooms.items c.args.trace.now.setup.shared (c.in_ok-rooms.ensures.items_if_clones_equal (λ y e. e)) refl (ap (λ n. 1 + n) c.all_stores-most.ensures)

pub stores_in-requires : goal.stores_in-requires
stores_in-requires c =
    rw c.deref.ensures.value (own_short c.args.trace.now c.requires c.deref-ops-items.result.now c.deref-ops-items.ensures.value c.loop-ops.ops-index c.ops-item.result c.loop-ops-test.true c.ops-item.is)

pub raise_shared-requires : goal.raise_shared-requires
raise_shared-requires c =
    let trace = (meaning_of c.args.trace.now).trace in
    let inside = known c.args.trace.now c.requires c.deref-ops-items.result.now c.deref-ops-items.ensures.value c.loop-ops.ops-index c.ops-item.result c.loop-ops-test.true c.ops-item.is in
    let mine = own c.args.trace.now c.requires c.deref-ops-items.result.now c.deref-ops-items.ensures.value c.loop-ops.ops-index c.ops-item.result c.loop-ops-test.true c.ops-item.is in
    let can = can_raise trace c.requires.rules c.loop-ops.ops-index (1 + c.all_stores-most.result) c.loop-ops.rooms.items c.ops-item.result.items inside mine c.loop-ops.invariant in
    subst (λ n. CanRaise (1 + c.all_stores-most.result) n c.deref-in-loop-ops.result.now c.deref_mut.result.now) (sym (c.stores_in.ensures ∙ ap stores_in c.deref.ensures.value))
    (subst (λ (ops : List Op). CanRaise (1 + c.all_stores-most.result) (stores_in c.ops-item.result.items) ops c.deref_mut.result.now) (sym c.deref-in-loop-ops.ensures.value)
    (subst (CanRaise (1 + c.all_stores-most.result) (stores_in c.ops-item.result.items) c.ops-item.result.items) (sym c.deref_mut.ensures.value) can))

pub loop-ops-preserved : goal.loop-ops-preserved
loop-ops-preserved c =
    let trace = (meaning_of c.args.trace.now).trace in
    let most = 1 + c.all_stores-most.result in
    let inside = known c.args.trace.now c.requires c.deref-ops-items.result.now c.deref-ops-items.ensures.value c.loop-ops.ops-index c.ops-item.result c.loop-ops-test.true c.ops-item.is in
    let mine = own c.args.trace.now c.requires c.deref-ops-items.result.now c.deref-ops-items.ensures.value c.loop-ops.ops-index c.ops-item.result c.loop-ops-test.true c.ops-item.is in
    let rooms : c.raise_shared.new.rooms ≡ raised most (stores_in c.ops-item.result.items) c.ops-item.result.items c.loop-ops.rooms.items
    = c.raise_shared.ensures
    ∙ ap (λ n. raised most n c.deref-in-loop-ops.result.now c.deref_mut.result.now) (c.stores_in.ensures ∙ ap stores_in c.deref.ensures.value)
    ∙ ap₂ (λ (ops : List Op) (before : List ℕ). raised most (stores_in c.ops-item.result.items) ops before) c.deref-in-loop-ops.ensures.value c.deref_mut.ensures.value in
    let whole = all_of c.raise_shared.new.rooms c.loop-ops.rooms.items c.loop-ops.rooms.len (c.raise_shared.auto.rooms ∙ ap length c.deref_mut.ensures.value) (omega arith) in
    next_raised trace c.requires.rules c.loop-ops.ops-index most c.loop-ops.rooms.items _ c.ops-item.result.items inside mine (whole ∙ rooms) c.loop-ops.invariant

pub returns : goal.returns
returns c =
    let end = listed_end c.args.trace.now c.deref-ops-items.result.now c.loop-ops.ops-index c.deref-ops-items.ensures.value c.loop-ops.auto.ops-index-end c.loop-ops-test.false in
    all_raised (meaning_of c.args.trace.now).trace c.requires.rules c.loop-ops.ops-index (1 + c.all_stores-most.result) c.loop-ops.rooms.items end c.loop-ops.invariant
