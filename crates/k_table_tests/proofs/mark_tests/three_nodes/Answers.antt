use Rattle.std.proofs.Common.{ap₂, ◌∙◌, ◌++◌, ◌∷◌, []}
use Rattle.k_space.specs.Segments.{SegmentValue}
use Rattle.k_space.specs.Areas.{AreaValue}
use Rattle.k_table_tests.proofs.mark_tests.three_nodes.Goals as goal

pub returns : goal.returns
returns c = record {
  x = c.in_ok-segment.first.slot.0;
  y = c.in_ok-segment.second.slot.0;
  z = c.connect.ensures.z;
  is = c.add.ensures.added ∙ ap₂ (λ (a : AreaValue) (s : SegmentValue). record a { segments = a.segments ++ s ∷ [] }) c.in_ok-area.ensures c.connect.ensures.is;
}
