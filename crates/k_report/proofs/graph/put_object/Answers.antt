use Rattle.std.proofs.Common.{map}
use Rattle.k_types.specs.Owners.{owner_of}
use Rattle.k_text.specs.Shown.{shown_object, type_at}
use Rattle.k_text.specs.Named.{name_word, heap_word, type_word}
use Rattle.k_text.specs.Report.{object_line, content_word}
use Rattle.k_report.proofs.Known.{named_heap, named_type}
use Rattle.k_report.proofs.LineLemmas.{writes_line, line_behind_three}
use Rattle.k_report.proofs.graph.put_object.Goals as goal
use Rattle.k_types.proofs.Owners.{owner_known}

pub heap_name-requires : goal.heap_name-requires
heap_name-requires g c =
    named_heap _ (g.V.View.trace c.args.view.now) _ c.requires.named
    (rw c.owner.ensures (owner_known (g.V.View.trace c.args.view.now) (g.V.View.state c.args.view.now) c.args.name.seg.0 c.requires.known))

pub type_label-requires : goal.type_label-requires
type_label-requires g c = named_type _ (g.V.View.trace c.args.view.now) _ c.requires.named c.object_type.ensures.known

pub returns-clause-written : goal.returns-clause-written
unfolding object_line
returns-clause-written g c =
    writes_line _ _ _ _ _ _ (object_line c.args.names.now (owner_of (g.V.View.trace c.args.view.now) (g.V.View.state c.args.view.now)) (shown_object (g.V.View.state c.args.view.now).objects c.args.name))
    (line_behind_three (name_word c.args.names.now c.args.name)
    (heap_word c.args.names.now (owner_of (g.V.View.trace c.args.view.now) (g.V.View.state c.args.view.now) c.args.name.seg.0))
    (type_word c.args.names.now (type_at (g.V.View.state c.args.view.now).objects c.args.name))
    _ _ _ _
    (map (content_word c.args.names.now) (shown_object (g.V.View.state c.args.view.now).objects c.args.name).fields)
    (rw c.requires.empty at c.push_name.ensures.text)
    (rw (c.heap_name.ensures.name, c.owner.ensures) at c.push_word.ensures)
    (rw (c.type_label.ensures.name, c.object_type.ensures.exact) at c.push_word-2.ensures)
    c.push_fields.ensures.text)
    c.write_to.ensures.written
