use Rattle.std.proofs.Common.{◌≡◌, ◌≤◌, ◌+◌, ◌*◌, ◌++◌, length, map, take}
use Rattle.k_text.specs.Shown.{shown_object}
use Rattle.k_words.specs.Spaced.{spaced}
use Rattle.k_text.specs.Report.{content_word}
use Rattle.k_report.proofs.graph.push_fields.Given as goal

abbrev pub invariant-loop-field : goal.invariant-loop-field
invariant-loop-field g l = record {
  text : l.line ≡ l.fn.line ++ spaced (map (content_word l.names) (take l.field (shown_object (g.V.View.state l.view).objects l.name).fields));
  room : length l.line ≤ length l.fn.line + 54 * l.field;
}
