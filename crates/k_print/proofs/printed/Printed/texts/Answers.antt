use Rattle.std.proofs.Common.{arith, inl}
use Rattle.k_print.proofs.printed.Printed.texts.Goals as goal

pub returns-clause-texts : goal.returns-clause-texts
returns-clause-texts c =
    let few = c.are_few.ensures.0 c.if-not-are_few.false in
    let front = few.0 in
    let both = few.1 in
    let trace = c.len.ensures in
    let report = c.len-2.ensures in
    record {
      trace = c.in_ok-trace.ensures.text;
      report = c.in_ok-report.ensures.text;
      spelled = record { few = omega (arith, front, trace); is_trace = c.in_ok-trace.ensures.is_trace; is_text = inl c.in_ok-trace.ensures.text };
      accepted = c.in_ok-report.ensures.accepted;
      few = (omega (arith, front, trace), omega (arith, both, trace, report));
    }
