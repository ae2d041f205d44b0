use Rattle.std.proofs.Common.{List, Option, ap, ◌∙◌}
use Rattle.k_space.specs.Segments.{Row, SegmentValue, unmarked_segment}
use Rattle.k_space.proofs.Rows.{whitened, whitened_rows}
use Rattle.k_space.proofs.GrayQueue.{last_whitened}
use Rattle.k_space.proofs.ListedLemmas.{listed_whitened}
use Rattle.k_space.proofs.Bytes.{bytes_whitened}
use Rattle.k_space.proofs.segment.Segment.unmark_all.Goals as goal

pub invariant_of-self : goal.invariant_of-self
invariant_of-self c =
    let places = c.self.inside.places.items in
    rw c.whiten.ensures (record {
      sound = whitened places c.self.inside.cells c.self.inside.room _ c.self.inside.gray c.self.invariant.sound;
      bytes = bytes_whitened places c.self.inside.cells c.self.inside.bytes c.self.invariant.bytes;
      listed = listed_whitened places _ _ c.self.invariant.listed;
      reserved = c.self.invariant.reserved;
      last = last_whitened places c.self.inside.last;
    })

pub returns : goal.returns
returns c =
    rw c.whiten.ensures
    (ap (λ (rows : List (Option Row)). record { number = c.self.inside.number.0; room = c.self.inside.room; rows = rows }) (whitened_rows c.self.inside.cells c.self.inside.places.items)
    ∙ ap (λ (s : SegmentValue). unmarked_segment s) c.self.view_is)
