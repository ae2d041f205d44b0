use Rattle.std.proofs.Common.{◌<◌, length, arith}
use Rattle.std.proofs.lemmas.Option.{slice_get_within}
use Rattle.k_complete.proofs.KilledAt.{high_can, high_killed, low_can, low_killed}
use Rattle.k_complete.proofs.placed.kill_at.Goals as goal

pub do_kill-requires : goal.do_kill-requires
do_kill-requires g c =
    let cut = c.split_at_mut-front in
    low_can g.world' c.args.processes.now cut.result.0.now cut.result.1.now c.args.at c.args.target c.requires.0 c.requires.1 c.args.kernel.now c.args.book.now c.args.op.now cut.ensures.value
    c.requires.2.own c.requires.2.other c.index-front-at.result c.index-back-0.result cut.ensures.front_len c.if-at-target.true c.requires.2.can

pub do_kill-requires-else-at-target : goal.do_kill-requires-else-at-target
do_kill-requires-else-at-target g c =
    let cut = c.split_at_mut-front-else-at-target in
    let two = c.requires.2.two in
    let inside : c.args.target < c.args.at = omega (arith, two, c.if-at-target.false) in
    high_can g.world' c.args.processes.now cut.result.0.now cut.result.1.now c.args.at c.args.target c.requires.0 c.requires.1 c.args.kernel.now c.args.book.now c.args.op.now cut.ensures.value
    c.requires.2.own c.requires.2.other c.index-front-target.result c.index-back-0-else-at-target.result cut.ensures.front_len inside c.requires.2.can

pub returns-then-at-target : goal.returns-then-at-target
returns-then-at-target g c = λ p t own other.
    let cut = c.split_at_mut-front in
    low_killed g.world' c.args.processes.now cut.result.0.now cut.result.1.now c.args.at c.args.target p t c.args.kernel.now c.args.book.now c.args.op.now cut.ensures.value
    own other c.index-front-at.result c.index-back-0.result cut.ensures.front_len c.if-at-target.true
    c.do_kill.new.process c.do_kill.new.target c.do_kill.new.kernel c.do_kill.new.book c.do_kill.ensures.done c.do_kill.ensures.events

pub returns-else-at-target : goal.returns-else-at-target
returns-else-at-target g c = λ p t own other.
    let cut = c.split_at_mut-front-else-at-target in
    let two = c.requires.2.two in
    let inside : c.args.target < c.args.at = omega (arith, two, c.if-at-target.false) in
    let done = c.do_kill-else-at-target in
    high_killed g.world' c.args.processes.now cut.result.0.now cut.result.1.now c.args.at c.args.target p t c.args.kernel.now c.args.book.now c.args.op.now cut.ensures.value
    own other c.index-front-target.result c.index-back-0-else-at-target.result cut.ensures.front_len inside
    done.new.process done.new.target done.new.kernel done.new.book done.ensures.done done.ensures.events

pub split_at_mut-front-requires : goal.split_at_mut-front-requires
split_at_mut-front-requires g c =
    let inside : c.args.target < length c.args.processes.now = slice_get_within c.args.processes.now c.args.target c.requires.1 c.requires.2.other in
    omega (arith, inside)

pub split_at_mut-front-requires-else-at-target : goal.split_at_mut-front-requires-else-at-target
split_at_mut-front-requires-else-at-target g c =
    let inside : c.args.at < length c.args.processes.now = slice_get_within c.args.processes.now c.args.at c.requires.0 c.requires.2.own in
    omega (arith, inside)

pub bounds-back-0 : goal.bounds-back-0
bounds-back-0 g c =
    let inside : c.args.target < length c.args.processes.now = slice_get_within c.args.processes.now c.args.target c.requires.1 c.requires.2.other in
    let back = c.split_at_mut-front.ensures.back_len in
    omega (arith, inside, back)

pub bounds-back-0-else-at-target : goal.bounds-back-0-else-at-target
bounds-back-0-else-at-target g c =
    let inside : c.args.at < length c.args.processes.now = slice_get_within c.args.processes.now c.args.at c.requires.0 c.requires.2.own in
    let back = c.split_at_mut-front-else-at-target.ensures.back_len in
    omega (arith, inside, back)
