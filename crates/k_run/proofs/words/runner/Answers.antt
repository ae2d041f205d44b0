use Rattle.std.proofs.Common.{sym, ◌∙◌, ap, refl, Some}
use Rattle.std.specs.Prelude.{map, string_bytes}
use Rattle.k_status.proofs.Answered.{answered_written}
use Rattle.k_run.specs.declared.words.Order.{Order}
use Rattle.k_run.specs.declared.words.Order.TheVariants.{OnThreads, OfFile}
use Rattle.k_run.proofs.Orders.{other_order, told_as}
use Rattle.k_run.proofs.words.runner.Goals as goal

pub returns-in-Some-OnThreads-clause-told : goal.returns-in-Some-OnThreads-clause-told
returns-in-Some-OnThreads-clause-told g c =
    told_as (map string_bytes c.args.words.now) (Some OnThreads) _ _ _ (sym c.order_of.ensures ∙ c.in-Some-OnThreads.is ∙ ap (λ (order : Order). Some order) c.in-Some-OnThreads.field-0-is) c.run_file.ensures.answered

pub returns-in-Some-OfFile-clause-told : goal.returns-in-Some-OfFile-clause-told
returns-in-Some-OfFile-clause-told g c =
    told_as (map string_bytes c.args.words.now) (Some OfFile) _ _ _ (sym c.order_of.ensures ∙ c.in-Some-OfFile.is ∙ ap (λ (order : Order). Some order) c.in-Some-OfFile.field-0-is) c.replay_file.ensures.answered

pub returns-in-None-clause-told : goal.returns-in-None-clause-told
returns-in-None-clause-told g c = told_as (map string_bytes c.args.words.now) _ _ _ _ (sym c.order_of.ensures ∙ c.in-None.is) (answered_written _ _ _ _ _ (refl, refl) c.write_usage.ensures)

pub returns-in-Some-OnThreads-clause-unread : goal.returns-in-Some-OnThreads-clause-unread
returns-in-Some-OnThreads-clause-unread g c none = absurd (other_order (map string_bytes c.args.words.now) _ (sym c.order_of.ensures ∙ c.in-Some-OnThreads.is) none)

pub returns-in-Some-OfFile-clause-unread : goal.returns-in-Some-OfFile-clause-unread
returns-in-Some-OfFile-clause-unread g c none = absurd (other_order (map string_bytes c.args.words.now) _ (sym c.order_of.ensures ∙ c.in-Some-OfFile.is) none)
