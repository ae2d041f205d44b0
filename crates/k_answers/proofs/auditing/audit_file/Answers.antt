use Rattle.std.proofs.Common.{refl, ap, Err}
use Rattle.k_types.specs.Bounds.{most_check_bytes}
use Rattle.k_status.specs.declared.status.Status.TheVariants.{WantOfMemory, ReadFault}
use Rattle.k_status.proofs.Answered.{answered_unwritten, answered_more, was_read}
use Rattle.k_answers.proofs.Answered.{audited_source_tells}
use Rattle.k_answers.proofs.auditing.audit_file.Goals as goal

pub returns-in-Ok-clause-answered : goal.returns-in-Ok-clause-answered
returns-in-Ok-clause-answered g c =
    answered_more _ _ _ _ (audited_source_tells most_check_bytes _ _ (was_read most_check_bytes _ _ _ _ c.deref.ensures.value c.deref.ensures.len c.in-Ok.ensures.bytes c.in-Ok.ensures.bound c.in-Ok.ensures.end)) c.audit_bytes.ensures.answered

pub returns-in-Err-NoMemory-clause-answered : goal.returns-in-Err-NoMemory-clause-answered
returns-in-Err-NoMemory-clause-answered g c = answered_unwritten _ _ _ WantOfMemory _ c.want_of_memory.ensures refl

pub returns-in-Err-ReadFault-clause-answered : goal.returns-in-Err-ReadFault-clause-answered
returns-in-Err-ReadFault-clause-answered g c = answered_unwritten _ _ _ ReadFault _ refl (c.in-Err-ReadFault.ensures.fault (ap Err c.in-Err-ReadFault.field-0-is), refl)
