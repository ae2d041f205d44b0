use Rattle.std.proofs.Common.{rules, sym, ◌∙◌, ap, Some}
use Rattle.std.specs.Prelude.{map, string_bytes}
use Rattle.k_answers.specs.declared.commands.Command.{Command}
use Rattle.k_answers.specs.declared.commands.Command.TheVariants.{Run, Watch, Work}
use Rattle.k_status.proofs.Answered.{answered_more}
use Rattle.k_answers.proofs.Lists.{few_objects}
use Rattle.k_answers.proofs.Meanings.{big_means, run_means, watch_means, work_means}
use Rattle.k_top.proofs.call.tell.Goals as goal

pub returns-in-Some-Run-clause-told : goal.returns-in-Some-Run-clause-told
returns-in-Some-Run-clause-told g c =
    answered_more _ _ _ _ (run_means _ _ Run (sym c.command_of.ensures ∙ c.in-Some-Run.is ∙ ap (λ (command : Command). Some command) c.in-Some-Run.field-0-is) tt) c.run_file.ensures.answered

pub run_workload-requires : goal.run_workload-requires
run_workload-requires g c =
    (search rules, (search rules, few_objects (map string_bytes c.args.words.now) _ (sym c.command_of.ensures ∙ c.in-Some-Big.is ∙ ap (λ (command : Command). Some command) c.in-Some-Big.field-0-is)))

pub returns-in-Some-Big-clause-told : goal.returns-in-Some-Big-clause-told
returns-in-Some-Big-clause-told g c =
    answered_more _ _ _ _ (big_means _ _ _ (sym c.command_of.ensures ∙ c.in-Some-Big.is ∙ ap (λ (command : Command). Some command) c.in-Some-Big.field-0-is)) c.run_workload.ensures.answered

pub returns-in-Some-Run-clause-unread : goal.returns-in-Some-Run-clause-unread
returns-in-Some-Run-clause-unread g c none = absurd (none (Run, sym c.command_of.ensures ∙ c.in-Some-Run.is ∙ ap (λ (command : Command). Some command) c.in-Some-Run.field-0-is, tt))

pub returns-in-Some-Watch-clause-told : goal.returns-in-Some-Watch-clause-told
returns-in-Some-Watch-clause-told g c =
    answered_more _ _ _ _ (watch_means _ _ _ (sym c.command_of.ensures ∙ c.in-Some-Watch.is ∙ ap (λ (command : Command). Some command) c.in-Some-Watch.field-0-is)) c.watch_file.ensures.answered

pub returns-in-Some-Watch-clause-unread : goal.returns-in-Some-Watch-clause-unread
returns-in-Some-Watch-clause-unread g c none = absurd (none (Watch c.in-Some-Watch.count, sym c.command_of.ensures ∙ c.in-Some-Watch.is ∙ ap (λ (command : Command). Some command) c.in-Some-Watch.field-0-is, tt))

pub returns-in-Some-Work-clause-told : goal.returns-in-Some-Work-clause-told
returns-in-Some-Work-clause-told g c =
    answered_more _ _ _ _ (work_means _ _ (sym c.command_of.ensures ∙ c.in-Some-Work.is ∙ ap (λ (command : Command). Some command) c.in-Some-Work.field-0-is)) c.work_file.ensures.answered

pub returns-in-Some-Work-clause-unread : goal.returns-in-Some-Work-clause-unread
returns-in-Some-Work-clause-unread g c none = absurd (none (Work, sym c.command_of.ensures ∙ c.in-Some-Work.is ∙ ap (λ (command : Command). Some command) c.in-Some-Work.field-0-is, tt))
