use Rattle.k_answers.proofs.Contract.{contract}
use Rattle.k_status.proofs.Handed.{handed_on, not_handed_on}
use Rattle.k_top.proofs.gathering.gathered_call.Goals as goal

pub returns-in-WriteFault-clause-answered : goal.returns-in-WriteFault-clause-answered
returns-in-WriteFault-clause-answered g c =
    contract _ _ _ _
    (not_handed_on g.K.Sink.Holds g.K.Sink.faults _ _ _ _ _ _ _ _ (λ text never. never) c.over-sink.ensures.inner c.over-sink.ensures.empty c.into_inner.ensures.inner c.in-WriteFault.is c.tell.ensures.told)

pub returns-in_default-clause-answered : goal.returns-in_default-clause-answered
returns-in_default-clause-answered g c =
    contract _ _ _ _
    (handed_on g.K.Sink.Holds g.K.Sink.faults _ _ _ _ _ _ _ _ _ _ _ c.over-sink.ensures.inner c.over-sink.ensures.empty c.into_inner-in_default.ensures.inner c.after_writing.ensures c.tell.ensures.told
    (λ none. c.hand_on-handed.ensures.idle (rw (c.tell.ensures.unwritten none) c.over-sink.ensures.empty))
    c.hand_on-handed.ensures.written)
