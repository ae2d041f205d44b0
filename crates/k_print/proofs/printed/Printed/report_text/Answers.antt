use Rattle.std.proofs.Common.{◌≡◌, ◌∙◌, [], sym, subst}
use Rattle.k_history.specs.Verdicts.{IsAccepted}
use Rattle.k_words.specs.Words.{Text}
use Rattle.k_print.specs.Printed.{named_done, report_of}
use Rattle.k_print.proofs.printed.Printed.report_text.Goals as goal

pub returns-in-Ok-clause-text : goal.returns-in-Ok-clause-text
returns-in-Ok-clause-text c = c.into_bytes.ensures ∙ sym (c.in-Ok.ensures.written.ok [] [] (sym c.make-out.ensures.taken))

pub returns-in-Ok-clause-accepted : goal.returns-in-Ok-clause-accepted
returns-in-Ok-clause-accepted c =
    let whole : c.into_bytes.result.items ≡ report_of c.args.self.now = c.into_bytes.ensures ∙ sym (c.in-Ok.ensures.written.ok [] [] (sym c.make-out.ensures.taken)) in
    subst (λ (t : Text). IsAccepted (named_done c.args.self.now) t) (sym whole) c.in-Ok.ensures.accepted
