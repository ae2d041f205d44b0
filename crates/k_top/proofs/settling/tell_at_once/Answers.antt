use Rattle.std.proofs.Common.{sym, ◌∙◌, ap, refl, Some}
use Rattle.k_answers.specs.declared.commands.Command.{Command}
use Rattle.k_answers.specs.declared.commands.Command.TheVariants.{Run, Replay, Check, Big, Watch, Work, Snap, Audit, Tree}
use Rattle.k_status.proofs.Answered.{answered_more, answered_written}
use Rattle.k_answers.proofs.Meanings.{audit_means, check_means, run_means, snap_means, tree_means}
use Rattle.k_top.proofs.settling.tell_at_once.Goals as goal

pub returns-in-Some-Replay-clause-told : goal.returns-in-Some-Replay-clause-told
returns-in-Some-Replay-clause-told g c =
    answered_more _ _ _ _ (run_means _ _ Replay (sym c.command_of.ensures ∙ c.in-Some-Replay.is ∙ ap (λ (command : Command). Some command) c.in-Some-Replay.field-0-is) tt) c.replay_file.ensures.answered

pub returns-in-Some-Check-clause-told : goal.returns-in-Some-Check-clause-told
returns-in-Some-Check-clause-told g c =
    answered_more _ _ _ _ (check_means _ _ (sym c.command_of.ensures ∙ c.in-Some-Check.is ∙ ap (λ (command : Command). Some command) c.in-Some-Check.field-0-is)) c.check_file.ensures.answered

pub returns-in-Some-Replay-clause-unread : goal.returns-in-Some-Replay-clause-unread
returns-in-Some-Replay-clause-unread g c none = absurd (none (Replay, sym c.command_of.ensures ∙ c.in-Some-Replay.is ∙ ap (λ (command : Command). Some command) c.in-Some-Replay.field-0-is, tt))

pub returns-in-Some-Check-clause-unread : goal.returns-in-Some-Check-clause-unread
returns-in-Some-Check-clause-unread g c none = absurd (none (Check, sym c.command_of.ensures ∙ c.in-Some-Check.is ∙ ap (λ (command : Command). Some command) c.in-Some-Check.field-0-is, tt))

pub returns-in-Some-Snap-clause-told : goal.returns-in-Some-Snap-clause-told
returns-in-Some-Snap-clause-told g c =
    answered_more _ _ _ _ (snap_means _ _ (sym c.command_of.ensures ∙ c.in-Some-Snap.is ∙ ap (λ (command : Command). Some command) c.in-Some-Snap.field-0-is)) c.snap_file.ensures.answered

pub returns-in-Some-Snap-clause-unread : goal.returns-in-Some-Snap-clause-unread
returns-in-Some-Snap-clause-unread g c none = absurd (none (Snap, sym c.command_of.ensures ∙ c.in-Some-Snap.is ∙ ap (λ (command : Command). Some command) c.in-Some-Snap.field-0-is, tt))

pub returns-in-Some-Audit-clause-told : goal.returns-in-Some-Audit-clause-told
returns-in-Some-Audit-clause-told g c =
    answered_more _ _ _ _ (audit_means _ _ (sym c.command_of.ensures ∙ c.in-Some-Audit.is ∙ ap (λ (command : Command). Some command) c.in-Some-Audit.field-0-is)) c.audit_file.ensures.answered

pub returns-in-Some-Audit-clause-unread : goal.returns-in-Some-Audit-clause-unread
returns-in-Some-Audit-clause-unread g c none = absurd (none (Audit, sym c.command_of.ensures ∙ c.in-Some-Audit.is ∙ ap (λ (command : Command). Some command) c.in-Some-Audit.field-0-is, tt))

pub returns-in-Some-Tree-clause-told : goal.returns-in-Some-Tree-clause-told
returns-in-Some-Tree-clause-told g c =
    answered_more _ _ _ _ (tree_means _ _ (sym c.command_of.ensures ∙ c.in-Some-Tree.is ∙ ap (λ (command : Command). Some command) c.in-Some-Tree.field-0-is)) c.tree_file.ensures.answered

pub returns-in-Some-Tree-clause-unread : goal.returns-in-Some-Tree-clause-unread
returns-in-Some-Tree-clause-unread g c none = absurd (none (Tree, sym c.command_of.ensures ∙ c.in-Some-Tree.is ∙ ap (λ (command : Command). Some command) c.in-Some-Tree.field-0-is, tt))

pub returns-in-None-clause-told : goal.returns-in-None-clause-told
returns-in-None-clause-told g c = answered_written _ _ _ _ _ (record { no_command = sym c.command_of.ensures ∙ c.in-None.is; says = refl }) c.write_usage.ensures

pub unreachable-requires : goal.unreachable-requires
unreachable-requires g c = c.requires Run (sym c.command_of.ensures ∙ c.in-Some-Run.is ∙ ap (λ (command : Command). Some command) c.in-Some-Run.field-0-is) tt

pub unreachable-requires-in-Some-Big : goal.unreachable-requires-in-Some-Big
unreachable-requires-in-Some-Big g c = c.requires (Big c.in-Some-Big.field-0-0) (sym c.command_of.ensures ∙ c.in-Some-Big.is ∙ ap (λ (command : Command). Some command) c.in-Some-Big.field-0-is) tt

pub unreachable-requires-in-Some-Watch : goal.unreachable-requires-in-Some-Watch
unreachable-requires-in-Some-Watch g c = c.requires (Watch c.in-Some-Watch.field-0-0) (sym c.command_of.ensures ∙ c.in-Some-Watch.is ∙ ap (λ (command : Command). Some command) c.in-Some-Watch.field-0-is) tt

pub unreachable-requires-in-Some-Work : goal.unreachable-requires-in-Some-Work
unreachable-requires-in-Some-Work g c = c.requires Work (sym c.command_of.ensures ∙ c.in-Some-Work.is ∙ ap (λ (command : Command). Some command) c.in-Some-Work.field-0-is) tt
