use Rattle.std.specs.Prelude.{map, string_bytes}
use Rattle.k_status.proofs.Handed.{handed_on, not_handed_on}
use Rattle.k_run.proofs.Orders.{never}
use Rattle.k_run.proofs.gathering.gathered_call.Goals as goal

pub returns-in-WriteFault-clause-told : goal.returns-in-WriteFault-clause-told
returns-in-WriteFault-clause-told g c =
    not_handed_on g.K.Sink.Holds g.K.Sink.faults _ _ _ _ _ _ _ _ (never (map string_bytes c.args.words.now) _) c.over-sink.ensures.inner c.over-sink.ensures.empty c.into_inner.ensures.inner c.in-WriteFault.is c.runner.ensures.told

pub returns-in_default-clause-told : goal.returns-in_default-clause-told
returns-in_default-clause-told g c =
    handed_on g.K.Sink.Holds g.K.Sink.faults _ _ _ _ _ _ _ _ _ _ _ c.over-sink.ensures.inner c.over-sink.ensures.empty c.into_inner-in_default.ensures.inner c.after_writing.ensures c.runner.ensures.told
    (λ none. c.hand_on-handed.ensures.idle (rw (c.runner.ensures.unwritten none) c.over-sink.ensures.empty))
    c.hand_on-handed.ensures.written
