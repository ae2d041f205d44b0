use Rattle.std.proofs.Common.{subst, sym}
use Rattle.k_types.specs.Bounds.{most_trace_bytes}
use Rattle.k_trace.specs.Rules.{IsTrace}
use Rattle.k_status.proofs.Answered.{was_read}
use Rattle.k_answers.proofs.translating.translation_of.Goals as goal

pub returns-in-Ok-read_script-clause-ok : goal.returns-in-Ok-read_script-clause-ok
returns-in-Ok-read_script-clause-ok g c = record {
  bytes = c.deref.result.now;
  read = was_read most_trace_bytes _ _ _ _ c.deref.ensures.value c.deref.ensures.len c.in-Ok.ensures.bytes c.in-Ok.ensures.bound c.in-Ok.ensures.end;
  script = c.in-Ok-read_script.script;
  judged = c.in-Ok-read_script.ensures.ok;
  translated = c.in_ok-translate-in-Ok-read_script.ensures;
  is_trace = subst IsTrace (sym c.in_ok-translate-in-Ok-read_script.ensures) c.in-Ok-read_script.ensures.rules;
}
