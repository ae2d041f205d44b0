use Rattle.std.proofs.Common.{◌<◌, ◌∙◌, sym, ap, subst, Some, arith}
use Rattle.k_types.specs.declared.op.Op.TheVariants.{Kill}
use Rattle.k_ends.specs.k_guests.declared.guest.Guest.{Guest}
use Rattle.k_ends.specs.k_guests.Serving.{GuestServes, basis_of}
use Rattle.k_host.proofs.Called.{pid_of}
use Rattle.k_host.proofs.Killed.{among}
use Rattle.k_host.proofs.Split.{at_back, at_front, set_parts, set_parts_back}
use Rattle.k_host.proofs.killing.kill_among.Goals as goal

pub try_kill-requires-clause-guest : goal.try_kill-requires-clause-guest
try_kill-requires-clause-guest c =
    let s = c.split_at_mut-front in
    subst (GuestServes (basis_of c.args.terms.now) c.args.book.now.journal.table) c.index-front-at.is
    (c.requires.serve.each c.args.at c.index-front-at.result (at_front c.args.guests.now s.result.0.now s.result.1.now c.args.target s.ensures.value s.ensures.front_len c.args.at c.index-front-at.result c.if-at-target.true c.index-front-at.is))

pub try_kill-requires-clause-target : goal.try_kill-requires-clause-target
try_kill-requires-clause-target c =
    let s = c.split_at_mut-front in
    subst (GuestServes (basis_of c.args.terms.now) c.args.book.now.journal.table) c.index-back-0.is
    (c.requires.serve.each c.args.target c.index-back-0.result
    (at_back c.args.guests.now s.result.0.now s.result.1.now c.args.target s.ensures.value s.ensures.front_len c.index-back-0.result (omega (arith, s.ensures.back_len, c.requires.other)) c.index-back-0.is))

pub try_kill-requires-clause-asks : goal.try_kill-requires-clause-asks
try_kill-requires-clause-asks c =
    let s = c.split_at_mut-front in
    let there = at_back c.args.guests.now s.result.0.now s.result.1.now c.args.target s.ensures.value s.ensures.front_len c.index-back-0.result (omega (arith, s.ensures.back_len, c.requires.other)) c.index-back-0.is in
    c.requires.asks ∙ ap (λ n. Kill (pid_of n)) (sym (c.requires.serve.placed c.args.target c.index-back-0.result there)) ∙ ap (λ (y : Guest). Kill y.cell.pid) c.index-back-0.is

pub split_at_mut-front-requires-else-at-target : goal.split_at_mut-front-requires-else-at-target
split_at_mut-front-requires-else-at-target c = omega (arith, c.requires.own)

pub try_kill-requires-else-at-target-clause-guest : goal.try_kill-requires-else-at-target-clause-guest
try_kill-requires-else-at-target-clause-guest c =
    let s = c.split_at_mut-front-else-at-target in
    subst (GuestServes (basis_of c.args.terms.now) c.args.book.now.journal.table) c.index-back-0-else-at-target.is
    (c.requires.serve.each c.args.at c.index-back-0-else-at-target.result
    (at_back c.args.guests.now s.result.0.now s.result.1.now c.args.at s.ensures.value s.ensures.front_len c.index-back-0-else-at-target.result (omega (arith, s.ensures.back_len, c.requires.own)) c.index-back-0-else-at-target.is))

pub try_kill-requires-else-at-target-clause-target : goal.try_kill-requires-else-at-target-clause-target
try_kill-requires-else-at-target-clause-target c =
    let s = c.split_at_mut-front-else-at-target in
    let before : c.args.target < c.args.at = omega (arith, c.if-at-target.false, c.requires.two) in
    subst (GuestServes (basis_of c.args.terms.now) c.args.book.now.journal.table) c.index-front-target.is
    (c.requires.serve.each c.args.target c.index-front-target.result
    (at_front c.args.guests.now s.result.0.now s.result.1.now c.args.at s.ensures.value s.ensures.front_len c.args.target c.index-front-target.result before c.index-front-target.is))

pub try_kill-requires-else-at-target-clause-asks : goal.try_kill-requires-else-at-target-clause-asks
try_kill-requires-else-at-target-clause-asks c =
    let s = c.split_at_mut-front-else-at-target in
    let before : c.args.target < c.args.at = omega (arith, c.if-at-target.false, c.requires.two) in
    let there = at_front c.args.guests.now s.result.0.now s.result.1.now c.args.at s.ensures.value s.ensures.front_len c.args.target c.index-front-target.result before c.index-front-target.is in
    c.requires.asks ∙ ap (λ n. Kill (pid_of n)) (sym (c.requires.serve.placed c.args.target c.index-front-target.result there)) ∙ ap (λ (y : Guest). Kill y.cell.pid) c.index-front-target.is

pub returns-then-at-target : goal.returns-then-at-target
returns-then-at-target c =
    let s = c.split_at_mut-front in
    let own = at_front c.args.guests.now s.result.0.now s.result.1.now c.args.target s.ensures.value s.ensures.front_len c.args.at c.index-front-at.result c.if-at-target.true c.index-front-at.is in
    let other = at_back c.args.guests.now s.result.0.now s.result.1.now c.args.target s.ensures.value s.ensures.front_len c.index-back-0.result (omega (arith, s.ensures.back_len, c.requires.other)) c.index-back-0.is in
    among (basis_of c.args.terms.now) c.args.op.now c.args.at c.args.target c.args.guests.now _ c.args.kernel.now c.try_kill.new.kernel c.args.book.now c.try_kill.new.book c.try_kill.result
    _ _ c.try_kill.new.guest c.try_kill.new.target (own ∙ ap (λ (y : Guest). Some y) c.index-front-at.is) (other ∙ ap (λ (y : Guest). Some y) c.index-back-0.is)
    (set_parts c.args.guests.now s.result.0.now s.result.1.now c.args.target s.ensures.value s.ensures.front_len c.args.at c.try_kill.new.guest c.try_kill.new.target c.if-at-target.true)
    c.try_kill.ensures.done c.try_kill.ensures.same c.try_kill.ensures.why

pub returns-else-at-target : goal.returns-else-at-target
returns-else-at-target c =
    let s = c.split_at_mut-front-else-at-target in
    let kill = c.try_kill-else-at-target in
    let before : c.args.target < c.args.at = omega (arith, c.if-at-target.false, c.requires.two) in
    let own = at_back c.args.guests.now s.result.0.now s.result.1.now c.args.at s.ensures.value s.ensures.front_len c.index-back-0-else-at-target.result (omega (arith, s.ensures.back_len, c.requires.own)) c.index-back-0-else-at-target.is in
    let other = at_front c.args.guests.now s.result.0.now s.result.1.now c.args.at s.ensures.value s.ensures.front_len c.args.target c.index-front-target.result before c.index-front-target.is in
    among (basis_of c.args.terms.now) c.args.op.now c.args.at c.args.target c.args.guests.now _ c.args.kernel.now kill.new.kernel c.args.book.now kill.new.book kill.result
    _ _ kill.new.guest kill.new.target (own ∙ ap (λ (y : Guest). Some y) c.index-back-0-else-at-target.is) (other ∙ ap (λ (y : Guest). Some y) c.index-front-target.is)
    (set_parts_back c.args.guests.now s.result.0.now s.result.1.now c.args.at s.ensures.value s.ensures.front_len c.args.target kill.new.target kill.new.guest before)
    kill.ensures.done kill.ensures.same kill.ensures.why
