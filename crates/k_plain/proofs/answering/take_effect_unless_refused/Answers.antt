use Rattle.std.proofs.Common.{sym, ◌∙◌}
use Rattle.k_plain.proofs.Replied.{effect_taken, refused_keeps}
use Rattle.k_plain.proofs.answering.take_effect_unless_refused.Goals as goal

pub returns-in-Refused-clause-ok : goal.returns-in-Refused-clause-ok
returns-in-Refused-clause-ok c =
    let m = c.args.lists.now in
    refused_keeps m.setup m.state c.args.pid.0 c.args.op.now c.in-Refused.field-0 (sym c.in-Refused.is ∙ c.requires.said)

pub returns-in_default : goal.returns-in_default
returns-in_default c =
    let m = c.args.lists.now in
    let taken = c.take_effect.ensures in
    record {
      setup = taken.setup;
      ok = effect_taken m.setup m.state c.take_effect.new.lists.state c.args.pid.0 c.args.op.now c.args.said.now c.take_effect.result c.in_default.not-Refused c.requires.said taken.ok;
      err = taken.err;
    }
