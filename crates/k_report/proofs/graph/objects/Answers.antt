use Rattle.std.proofs.Common.{Some, sym, ◌∙◌}
use Rattle.k_types.specs.Owners.{owner_of}
use Rattle.k_text.specs.Shown.{shown_object}
use Rattle.k_text.specs.Report.{object_line}
use Rattle.k_report.proofs.LineLemmas.{written_none, mapped_next, mapped_failed, mapped_all}
use Rattle.k_report.proofs.Objects.{up_to_name, none_up_to, next_object, no_next_object, fewer_left}
use Rattle.k_report.proofs.graph.objects.Goals as goal

pub loop-name-init : goal.loop-name-init
loop-name-init g c = record { written = rw none_up_to (written_none _ _); empty = c.requires.empty }

pub put_object-requires-clause-object : goal.put_object-requires-clause-object
put_object-requires-clause-object g c =
    (next_object c.loop-name.after (g.V.View.state c.args.view.now).objects c.in-Some.name c.in-Some.ensures.ordered (sym c.in-Some.ensures.next)).there

pub returns-in_err-put_object-clause-written : goal.returns-in_err-put_object-clause-written
returns-in_err-put_object-clause-written g c =
    let next = next_object c.loop-name.after (g.V.View.state c.args.view.now).objects c.in-Some.name c.in-Some.ensures.ordered (sym c.in-Some.ensures.next) in
    mapped_failed (object_line c.args.names.now (owner_of (g.V.View.trace c.args.view.now) (g.V.View.state c.args.view.now)))
    (up_to_name c.loop-name.after (g.V.View.state c.args.view.now).objects) (g.V.View.state c.args.view.now).objects next.rest
    (shown_object (g.V.View.state c.args.view.now).objects c.in-Some.name)
    _ _ _ _ _ _ c.from_residual.result _ c.from_residual.ensures.0 next.whole c.loop-name.invariant.written c.in_err-put_object.ensures.written

pub loop-name-smaller : goal.loop-name-smaller
loop-name-smaller g c =
    fewer_left c.loop-name.after (g.V.View.state c.args.view.now).objects c.in-Some.name
    (next_object c.loop-name.after (g.V.View.state c.args.view.now).objects c.in-Some.name c.in-Some.ensures.ordered (sym c.in-Some.ensures.next))

pub loop-name-preserved : goal.loop-name-preserved
loop-name-preserved g c =
    let next = next_object c.loop-name.after (g.V.View.state c.args.view.now).objects c.in-Some.name c.in-Some.ensures.ordered (sym c.in-Some.ensures.next) in
    record {
      written = mapped_next (object_line c.args.names.now (owner_of (g.V.View.trace c.args.view.now) (g.V.View.state c.args.view.now)))
          (up_to_name c.loop-name.after (g.V.View.state c.args.view.now).objects)
          (up_to_name (Some c.in-Some.name) (g.V.View.state c.args.view.now).objects)
          (shown_object (g.V.View.state c.args.view.now).objects c.in-Some.name)
          _ _ _ _ _ _ _ next.next c.loop-name.invariant.written c.in_ok-put_object.ensures.written;
      empty = c.put_object.ensures.empty;
    }

pub returns-clause-written : goal.returns-clause-written
returns-clause-written g c =
    mapped_all (object_line c.args.names.now (owner_of (g.V.View.trace c.args.view.now) (g.V.View.state c.args.view.now)))
    (up_to_name c.loop-name.after (g.V.View.state c.args.view.now).objects) (g.V.View.state c.args.view.now).objects
    _ _ _ _ _ (no_next_object c.loop-name.after (g.V.View.state c.args.view.now).objects (sym c.next_object.ensures.next ∙ c.in_default.is)) c.loop-name.invariant.written
