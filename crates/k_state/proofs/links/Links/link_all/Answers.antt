use Rattle.std.proofs.Common.{◌∙◌, arith}
use Rattle.k_state.proofs.links.Links.link_all.Goals as goal

pub loop-at-preserved : goal.loop-at-preserved
loop-at-preserved c =
    let inv = c.loop-at.invariant in
    let more = c.link.ensures in
    record {
      linked = more.linked;
      room = record {
        lasts = omega (arith, inv.room.lasts, more.lasts);
        befores = omega (arith, inv.room.befores, more.befores);
        few = omega (arith, inv.room.few, more.lasts);
      };
      lasts = more.lasts ∙ inv.lasts;
      befores = more.befores ∙ inv.befores;
    }
