use Rattle.std.proofs.Common.{refl, subst}
use Rattle.k_check.specs.declared.verdicts.Verdict.{Verdict}
use Rattle.k_check.specs.Verdicts.{IsVerdict}
use Rattle.k_trace.specs.Meaning.{meaning_of}
use Rattle.k_status.specs.declared.status.Status.TheVariants.{Good, Refused, WantOfMemory}
use Rattle.k_answers.specs.Texts.{good_text, refused_text}
use Rattle.k_status.proofs.Answered.{answered_unwritten, answered_written}
use Rattle.k_answers.proofs.checking.check_against.Goals as goal

pub check_report-requires : goal.check_report-requires
check_report-requires g c = record { good = c.requires.good; few = c.requires.few }

pub returns-in-Ok-Good-clause-answered : goal.returns-in-Ok-Good-clause-answered
returns-in-Ok-Good-clause-answered g c =
    answered_written _ _ Good _ good_text (subst (λ (v : Verdict). IsVerdict (meaning_of c.args.trace.now) c.args.report.now v) c.in-Ok-Good.field-0-is c.in-Ok-Good.ensures, refl) c.write_good.ensures

pub returns-in-Ok-Refused-clause-answered : goal.returns-in-Ok-Refused-clause-answered
returns-in-Ok-Refused-clause-answered g c =
    answered_written _ _ Refused _ (refused_text c.in-Ok-Refused.line)
    (c.in-Ok-Refused.line, subst (λ (v : Verdict). IsVerdict (meaning_of c.args.trace.now) c.args.report.now v) c.in-Ok-Refused.field-0-is c.in-Ok-Refused.ensures, refl) c.write_refused.ensures

pub returns-in-Err-clause-answered : goal.returns-in-Err-clause-answered
returns-in-Err-clause-answered g c = answered_unwritten _ _ _ WantOfMemory _ c.want_of_memory.ensures refl
