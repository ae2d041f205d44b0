use Rattle.std.proofs.Common.{◌<◌, ◌∙◌, refl, sym, ap, subst, List, length, set, slice_get}
use Rattle.std.proofs.lemmas.Option.{slice_get_within}
use Rattle.k_types.specs.declared.names.Pid.{Pid}
use Rattle.k_operate.specs.k_process.declared.process.Process.{Process}
use Rattle.k_operate.specs.k_process.Heaps.{value_of}
use Rattle.k_operate.proofs.Looped.{all_of}
use Rattle.k_operate.specs.Steps.{SparesOthers}
use Rattle.k_complete.specs.Placed.{CanDoAt, CanKillAt, HasDoneAt, HasKilledAt}
use Rattle.k_complete.proofs.PlacedKept.{can_do_next, can_kill_at, done_kill, done_next, read_there, same_target, spares_by, target}
use Rattle.k_complete.proofs.placed.do_at.Goals as goal
use Rattle.k_complete.proofs.placed.do_at.Goals.{in-Kill+else-target-at, in_default}
use Rattle.k_types.proofs.Lists.{same_value}

pub kill_at-requires : goal.kill_at-requires
kill_at-requires g c =
    let world = g.world' in
    let heaps = value_of c.args.heaps.now in
    let ps = heaps.processes in
    let p = c.requires.0 in
    let t = target world heaps c.args.at p c.args.op.now c.requires.1 c.in-Kill.target c.in-Kill.is c.if-target-at.true in
    let can = can_kill_at world heaps c.args.at p c.args.op.now c.requires.1 c.in-Kill.target c.in-Kill.is c.if-target-at.true in
    (p, t, subst (λ (qs : List Process). CanKillAt world qs c.args.at c.in-Kill.target.0 p t c.args.heaps.now.kernel c.args.heaps.now.book c.args.op.now) (sym c.deref_mut.ensures.value) can)

pub returns-then-target-at : goal.returns-then-target-at
returns-then-target-at g c = λ p found.
    let world = g.world' in
    let heaps = value_of c.args.heaps.now in
    let ps = heaps.processes in
    let n = subst (λ (q : Process). CanDoAt world heaps c.args.at q c.args.op.now) (same_value (sym c.requires.1.there ∙ found)) c.requires.1 in
    let t = target world heaps c.args.at p c.args.op.now n c.in-Kill.target c.in-Kill.is c.if-target-at.true in
    let can = can_kill_at world heaps c.args.at p c.args.op.now n c.in-Kill.target c.in-Kill.is c.if-target-at.true in
    let same = c.deref_mut.ensures.value in
    let killed = c.kill_at.ensures p t (ap (λ (qs : List Process). slice_get qs c.args.at) same ∙ can.own) (ap (λ (qs : List Process). slice_get qs c.in-Kill.target.0) same ∙ can.other) in
    let done = done_kill world heaps c.args.at p c.args.op.now n c.in-Kill.target c.in-Kill.is c.if-target-at.true
    c.kill_at.new.processes c.kill_at.new.kernel c.kill_at.new.book
    (subst (λ (qs : List Process). HasKilledAt world c.args.op.now c.args.at c.in-Kill.target.0 p t qs c.kill_at.new.processes c.kill_at.new.kernel c.args.heaps.now.book c.kill_at.new.book) same killed) in
    let whole = all_of c.kill_at.new.processes ps c.args.heaps.now.processes.len (c.kill_at.auto.processes ∙ ap (λ (qs : List Process). length qs) same) c.args.heaps.now.processes.ok.0 in
    subst (λ (qs : List Process). HasDoneAt world c.args.op.now c.args.at p heaps (record { processes = qs; kernel = c.kill_at.new.kernel; shared = heaps.shared; book = c.kill_at.new.book })) (sym whole) done

pub index_mut-requires : goal.index_mut-requires
index_mut-requires g c =
    subst (λ n. c.args.at < n) (sym c.args.heaps.now.processes.ok.0) (slice_get_within c.args.heaps.now.processes.items c.args.at c.requires.0 c.requires.1.there)

pub do_next-requires : goal.do_next-requires
do_next-requires g c =
    let world = g.world' in
    let heaps = value_of c.args.heaps.now in
    let ps = heaps.processes in
    let r = c.index_mut.result.now in
    let there = read_there ps ps c.args.at r refl (slice_get_within ps c.args.at c.requires.0 c.requires.1.there) c.index_mut.ensures.value in
    let n = subst (λ (q : Process). CanDoAt world heaps c.args.at q c.args.op.now) (same_value (sym c.requires.1.there ∙ there)) c.requires.1 in
    let spares : SparesOthers r c.args.op.now = spares_by world heaps c.args.at r c.args.op.now n (elim c.match-op.branch [
      | in-Kill+else-target-at w ↦ λ q is. ap (λ (x : Pid). x.0) (same_target (sym is ∙ w.in-Kill.is)) ∙ w.if-target-at.false
      | in_default w ↦ λ q is. absurd (w.in_default.not-Kill q is)
    ]) in
    can_do_next world heaps c.args.at r c.args.op.now n spares

pub returns : goal.returns
returns g c = λ p found.
    let world = g.world' in
    let heaps = value_of c.args.heaps.now in
    let ps = heaps.processes in
    let r = c.index_mut.result.now in
    let there = read_there ps ps c.args.at r refl (slice_get_within ps c.args.at c.requires.0 c.requires.1.there) c.index_mut.ensures.value in
    let n = subst (λ (q : Process). CanDoAt world heaps c.args.at q c.args.op.now) (same_value (sym c.requires.1.there ∙ there)) c.requires.1 in
    let new = c.do_next.new in
    let done = done_next world heaps c.args.at r c.args.op.now n new.process new.kernel new.shared.items new.book c.do_next.ensures.done c.do_next.ensures.events in
    subst (λ (q : Process). HasDoneAt world c.args.op.now c.args.at q heaps (record { processes = set ps c.args.at new.process; kernel = new.kernel; shared = new.shared.items; book = new.book })) (same_value (sym there ∙ found)) done
