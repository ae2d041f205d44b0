use Rattle.std.proofs.Common.{ap, ◌∙◌}
use Rattle.std.proofs.lemmas.Result.{on_err_weaker}
use Rattle.k_mark.specs.k_space.Areas.{with_segment}
use Rattle.k_mark.proofs.Segs.{put_back}
use Rattle.k_cell.proofs.growing.grow_in.Goals as goal

pub returns-clause-err : goal.returns-clause-err
returns-clause-err c =
    on_err_weaker c.grow.result
    (λ same. ap (with_segment c.args.area.now c.args.seg.0) same ∙ put_back c.args.area.now c.args.seg.0 c.in-Some.segment.now c.in-Some.ensures.value)
    c.grow.ensures.err
