use Rattle.std.proofs.Common.{◌∙◌, ap, inl, inr, length, arith}
use Rattle.k_limits.proofs.Making.{handed_on}
use Rattle.k_host.specs.Listening.{FreedNames}
use Rattle.k_keeper.specs.Kept.{IsNotOpened}
use Rattle.k_keeper.proofs.Opened.{few_events, first_listed, first_objects, most_read, opened, read_kept}
use Rattle.k_keeper.proofs.keeper.Keeper.read.Goals as goal

pub returns-in_err-host-clause-why : goal.returns-in_err-host-clause-why
returns-in_err-host-clause-why c = handed_on (IsNotOpened c.args.text.now c.args.ty c.args.bodies c.args.rooms) c.from_residual.result c.in_err-host.field-0.0 c.from_residual.ensures.1 (inl c.in_err-host.ensures.why)

pub returns-then-not-fits-clause-why : goal.returns-then-not-fits-clause-why
returns-then-not-fits-clause-why c = inr (few_events c.args.text.now c.args.ty c.args.bodies c.args.rooms c.in_ok-host.host c.in_ok-host.ensures.read c.fits.result c.fits.ensures c.if-not-fits.true)

pub overflow_sub-left : goal.overflow_sub-left
overflow_sub-left c = let enough = c.fits.ensures.0 c.if-not-fits.false in let counted = c.processes.ensures in omega (arith, enough, counted)

pub invariant_of-result : goal.invariant_of-result
invariant_of-result c = record {
  kept = read_kept c.args.text.now c.args.ty c.args.bodies c.args.rooms c.in_ok-host.host c.in_ok-host.ensures.read (c.fits.ensures.0 c.if-not-fits.false) c.from.result (c.from.ensures ∙ c.processes.ensures);
  counted = first_objects c.args.text.now c.args.ty c.args.bodies c.args.rooms c.in_ok-host.host c.in_ok-host.ensures.read;
  listed = first_listed c.args.text.now c.args.ty c.args.bodies c.args.rooms c.in_ok-host.host c.in_ok-host.ensures.read c.most_objects-most.result (most_read c.args.text.now c.args.ty c.args.bodies c.args.rooms c.in_ok-host.host c.in_ok-host.ensures.read c.most_objects-most.result c.most_objects-most.ensures);
  room = ap (λ (f : FreedNames). f.room) c.in_ok-freed.ensures;
  named = let none = ap (λ (f : FreedNames). length f.names) c.in_ok-freed.ensures in omega (arith, none);
  most = most_read c.args.text.now c.args.ty c.args.bodies c.args.rooms c.in_ok-host.host c.in_ok-host.ensures.read c.most_objects-most.result c.most_objects-most.ensures;
}

pub most_objects-most-requires : goal.most_objects-most-requires
most_objects-most-requires c = c.in_ok-host.ensures.read.fit.few.objects

pub returns-clause-read : goal.returns-clause-read
returns-clause-read c = opened c.args.text.now c.args.ty c.args.bodies c.args.rooms c.in_ok-host.host c.in_ok-host.ensures.read (c.fits.ensures.0 c.if-not-fits.false) c.from.result (c.from.ensures ∙ c.processes.ensures) c.in_ok-freed.freed.names 1
