use Rattle.std.proofs.Common.{refl, subst}
use Rattle.std.specs.Prelude.{codes}
use Rattle.k_trace.specs.declared.errors.TraceError.{TraceError}
use Rattle.k_status.specs.declared.status.Status.TheVariants.{BadTrace, WantOfMemory}
use Rattle.k_answers.specs.Inputs.{AreBadParts}
use Rattle.k_status.specs.Texts.{bad_trace_text}
use Rattle.k_status.proofs.Answered.{answered_unwritten, answered_written, answered_more}
use Rattle.k_answers.proofs.Answered.{check_tells, few_behind}
use Rattle.k_answers.proofs.checking.check_bytes.Goals as goal

pub check_against-requires : goal.check_against-requires
check_against-requires g c = record { good = c.in-Ok.ensures.ok.spelled.is_trace; few = few_behind (codes "report 1") _ _ _ c.in-Ok.ensures.ok }

pub returns-in-Ok-clause-answered : goal.returns-in-Ok-clause-answered
returns-in-Ok-clause-answered g c = answered_more _ _ _ _ (check_tells _ _ _ c.in-Ok.ensures.ok) c.check_against.ensures.answered

pub returns-in-Err-NoMemory-clause-answered : goal.returns-in-Err-NoMemory-clause-answered
returns-in-Err-NoMemory-clause-answered g c = answered_unwritten _ _ _ WantOfMemory _ c.want_of_memory.ensures refl

pub returns-in-Err-Bad-clause-answered : goal.returns-in-Err-Bad-clause-answered
returns-in-Err-Bad-clause-answered g c =
    answered_written _ _ BadTrace _ (bad_trace_text c.in-Err-Bad.line c.in-Err-Bad.reason) (
      c.in-Err-Bad.line,
      c.in-Err-Bad.reason,
      subst (λ (e : TraceError). AreBadParts (codes "report 1") c.args.bytes.now e) c.in-Err-Bad.field-0-is c.in-Err-Bad.ensures.bad,
      refl,
    ) (rw (c.in-Err-Bad.line-is, c.in-Err-Bad.reason-is) at c.write_bad_trace.ensures)
