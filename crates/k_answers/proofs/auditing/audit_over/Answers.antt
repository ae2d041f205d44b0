use Rattle.std.proofs.Common.{◌≡◌, refl, subst}
use Rattle.k_state.specs.Setups.{setup_of}
use Rattle.k_trace.specs.Meaning.{meaning_of}
use Rattle.k_audit.specs.Verdicts.{IsVerdict}
use Rattle.k_audit.specs.declared.verdicts.Verdict.{Verdict}
use Rattle.k_audit.specs.declared.verdicts.Verdict.TheVariants.{Sound, Line, Point}
use Rattle.k_status.specs.declared.status.Status.TheVariants.{Good, Refused, WantOfMemory}
use Rattle.k_answers.specs.Texts.{refused_text, sound_text, unsound_text}
use Rattle.k_status.proofs.Answered.{answered_unwritten, answered_written}
use Rattle.k_answers.proofs.Decided.{header_of}
use Rattle.k_answers.proofs.auditing.audit_over.Goals as goal

pub audit-requires : goal.audit-requires
audit-requires g c =
    let header = header_of (meaning_of c.args.trace.now) c.requires.good in
    record { rules = header.rules; named = header.named; proper = header.proper; few = c.requires.few }

pub returns-in-Ok-Sound-clause-answered : goal.returns-in-Ok-Sound-clause-answered
returns-in-Ok-Sound-clause-answered g c =
    answered_written _ _ Good _ sound_text
    (subst (λ (v : Verdict). IsVerdict c.args.trace.now.names (setup_of (meaning_of c.args.trace.now).trace) c.args.snapshot.now v) c.in-Ok-Sound.field-0-is c.in-Ok-Sound.ensures, refl)
    c.write_sound.ensures

pub returns-in-Ok-Line-clause-answered : goal.returns-in-Ok-Line-clause-answered
returns-in-Ok-Line-clause-answered g c =
    answered_written _ _ Refused _ (refused_text c.in-Ok-Line.line) (
      Line c.in-Ok-Line.line,
      subst (λ (v : Verdict). IsVerdict c.args.trace.now.names (setup_of (meaning_of c.args.trace.now).trace) c.args.snapshot.now v) c.in-Ok-Line.field-0-is c.in-Ok-Line.ensures,
      λ (clash : Line c.in-Ok-Line.line ≡ Sound). absurd cc,
      refl,
    ) c.write_refused.ensures

pub returns-in-Ok-Point-clause-answered : goal.returns-in-Ok-Point-clause-answered
returns-in-Ok-Point-clause-answered g c =
    answered_written _ _ Refused _ (unsound_text c.in-Ok-Point.point) (
      Point c.in-Ok-Point.point,
      subst (λ (v : Verdict). IsVerdict c.args.trace.now.names (setup_of (meaning_of c.args.trace.now).trace) c.args.snapshot.now v) c.in-Ok-Point.field-0-is c.in-Ok-Point.ensures,
      λ (clash : Point c.in-Ok-Point.point ≡ Sound). absurd cc,
      refl,
    ) c.write_unsound.ensures

pub returns-in-Err-clause-answered : goal.returns-in-Err-clause-answered
returns-in-Err-clause-answered g c = answered_unwritten _ _ _ WantOfMemory _ c.want_of_memory.ensures refl
