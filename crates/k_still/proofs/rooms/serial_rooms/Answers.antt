use Rattle.std.proofs.Common.{◌≡◌, ◌<◌, List, ℕ, length, sym, ap, ap₂, ◌∙◌, subst, arith}
use Rattle.k_types.specs.declared.op.Op.{Op}
use Rattle.k_types.specs.Trace.{process_count}
use Rattle.k_trace.specs.Meaning.{meaning_of}
use Rattle.k_process.proofs.Looped.{all_of}
use Rattle.k_still.specs.Opening.{CanCount, counted}
use Rattle.k_still.proofs.Passes.{own_at}
use Rattle.k_still.proofs.Serials.{AreCounted, all_counted, can_count, first_counted, next_counted}
use Rattle.k_still.proofs.rooms.serial_rooms.Goals as goal

pub loop-pid-init : goal.loop-pid-init
loop-pid-init c = first_counted (meaning_of c.args.trace.now).trace c.requires.rules c.in_ok-rooms.rooms.items _ c.in_ok-rooms.ensures (omega (arith, c.len-procs.ensures))

pub count_serials-requires : goal.count_serials-requires
count_serials-requires c =
    let trace = (meaning_of c.args.trace.now).trace in
    let all : c.len-procs.result ≡ process_count trace = omega (arith, c.len-procs.ensures) in
    let known : c.loop-pid.pid < process_count trace = omega (arith, all, c.loop-pid-test.true) in
    let own = own_at c.args.trace.now c.requires c.loop-pid.pid c.index.result.now known c.index.ensures in
    let can = can_count trace c.requires.rules c.loop-pid.pid c.loop-pid.rooms.items c.index.result.now.items known own c.loop-pid.invariant in
    subst (λ n. CanCount n c.loop-pid.pid c.deref.result.now c.deref_mut.result.now) (sym all)
    (subst (λ (ops : List Op). CanCount (process_count trace) c.loop-pid.pid ops c.deref_mut.result.now) (sym c.deref.ensures.value)
    (subst (CanCount (process_count trace) c.loop-pid.pid c.index.result.now.items) (sym c.deref_mut.ensures.value) can))

pub loop-pid-preserved : goal.loop-pid-preserved
loop-pid-preserved c =
    let trace = (meaning_of c.args.trace.now).trace in
    let all : c.len-procs.result ≡ process_count trace = omega (arith, c.len-procs.ensures) in
    let known : c.loop-pid.pid < process_count trace = omega (arith, all, c.loop-pid-test.true) in
    let own = own_at c.args.trace.now c.requires c.loop-pid.pid c.index.result.now known c.index.ensures in
    let counts : c.count_serials.new.counts ≡ counted (process_count trace) c.loop-pid.pid c.index.result.now.items c.loop-pid.rooms.items
    = c.count_serials.ensures
    ∙ ap (λ n. counted n c.loop-pid.pid c.deref.result.now c.deref_mut.result.now) all
    ∙ ap₂ (λ (ops : List Op) (rooms : List ℕ). counted (process_count trace) c.loop-pid.pid ops rooms) c.deref.ensures.value c.deref_mut.ensures.value in
    let whole = all_of c.count_serials.new.counts c.loop-pid.rooms.items c.loop-pid.rooms.len (c.count_serials.auto.counts ∙ ap length c.deref_mut.ensures.value) (omega arith) in
    next_counted trace c.requires.rules c.loop-pid.pid c.loop-pid.rooms.items _ c.index.result.now.items own (whole ∙ counts) c.loop-pid.invariant

pub returns : goal.returns
returns c =
    let trace = (meaning_of c.args.trace.now).trace in
    let end : c.loop-pid.pid ≡ process_count trace = omega (arith, c.len-procs.ensures, c.loop-pid-test.false, c.loop-pid.auto.pid-end) in
    all_counted trace c.requires.rules c.loop-pid.rooms.items (subst (λ k. AreCounted trace k c.loop-pid.rooms.items) end c.loop-pid.invariant)
