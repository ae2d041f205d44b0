use Rattle.std.proofs.Common.{ap, ◌∙◌, ◌++◌, ◌∷◌, []}
use Rattle.k_space.specs.Areas.{AreaValue}
use Rattle.k_measure.proofs.foreign.run.Goals as goal

pub mark-requires : goal.mark-requires
mark-requires g c = record {
  segment = c.link_out.new.segment;
  only = ap (λ (a : AreaValue). a.segments) c.add.ensures.added ∙ ap (λ (a : AreaValue). a.segments ++ c.link_out.new.segment ∷ []) c.in_ok-area.ensures;
  kept = c.link_out.ensures.kept;
}
