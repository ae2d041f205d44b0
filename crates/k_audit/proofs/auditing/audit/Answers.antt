use Rattle.std.proofs.Common.{[], ℕ, Option, subst, sym}
use Rattle.k_types.specs.Trace.{trace_of}
use Rattle.k_audit.specs.Judged.{IsJudged}
use Rattle.k_audit.specs.Verdicts.{IsBadLine}
use Rattle.k_audit.proofs.PlainOf.{few_in_text}
use Rattle.k_audit.proofs.ReaderLaws.{reader_laws}
use Rattle.k_audit.proofs.Runs.{bad_answer, ok_is_spelled}
use Rattle.k_audit.proofs.auditing.audit.Goals as goal

pub returns-in-Err-Bad : goal.returns-in-Err-Bad
returns-in-Err-Bad c =
    let names = c.args.names.now in
    let trace = trace_of c.args.setup.now [] [] in
    let laws = reader_laws names trace (record { rules = c.requires.rules; named = c.requires.named; proper = c.requires.proper }) in
    subst (IsBadLine names trace c.args.bytes.now) (sym c.in-Err-Bad.line-is) (bad_answer names trace laws c.args.bytes.now c.in-Err-Bad.field-0 c.in-Err-Bad.line c.in-Err-Bad.field-0-is c.in-Err-Bad.ensures)

pub judge-requires-clause-spelled : goal.judge-requires-clause-spelled
judge-requires-clause-spelled c =
    let names = c.args.names.now in
    let trace = trace_of c.args.setup.now [] [] in
    let laws = reader_laws names trace (record { rules = c.requires.rules; named = c.requires.named; proper = c.requires.proper }) in
    (ok_is_spelled names trace laws c.args.bytes.now c.in-Ok.snapshot c.in-Ok.ensures).spelled

pub judge-requires-clause-few : goal.judge-requires-clause-few
judge-requires-clause-few c =
    let names = c.args.names.now in
    let trace = trace_of c.args.setup.now [] [] in
    let laws = reader_laws names trace (record { rules = c.requires.rules; named = c.requires.named; proper = c.requires.proper }) in
    let spells = ok_is_spelled names trace laws c.args.bytes.now c.in-Ok.snapshot c.in-Ok.ensures in
    few_in_text names trace c.in-Ok.snapshot c.args.bytes.now spells.spelled spells.text c.requires.few

pub returns-in-Some : goal.returns-in-Some
returns-in-Some c =
    let names = c.args.names.now in
    let trace = trace_of c.args.setup.now [] [] in
    let laws = reader_laws names trace (record { rules = c.requires.rules; named = c.requires.named; proper = c.requires.proper }) in
    record {
      snap = c.in-Ok.snapshot;
      spells = ok_is_spelled names trace laws c.args.bytes.now c.in-Ok.snapshot c.in-Ok.ensures;
      lowest = subst (λ (o : Option ℕ). IsJudged trace c.in-Ok.snapshot o) c.in-Some.is c.in_ok-point.ensures;
    }

pub returns-in-None : goal.returns-in-None
returns-in-None c =
    let names = c.args.names.now in
    let trace = trace_of c.args.setup.now [] [] in
    let laws = reader_laws names trace (record { rules = c.requires.rules; named = c.requires.named; proper = c.requires.proper }) in
    record {
      snap = c.in-Ok.snapshot;
      spells = ok_is_spelled names trace laws c.args.bytes.now c.in-Ok.snapshot c.in-Ok.ensures;
      all = subst (λ (o : Option ℕ). IsJudged trace c.in-Ok.snapshot o) c.in-None.is c.in_ok-point.ensures;
    }
