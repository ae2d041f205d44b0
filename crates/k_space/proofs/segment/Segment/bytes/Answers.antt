use Rattle.std.proofs.Common.{sym, ap, ◌∙◌, map}
use Rattle.k_space.specs.Segments.{SegmentValue, segment_bytes}
use Rattle.k_space.specs.Places.{row_of}
use Rattle.k_space.proofs.Bytes.{bytes_shown}
use Rattle.k_space.proofs.Soundness.{segment_sound}
use Rattle.k_space.proofs.segment.Segment.bytes.Goals as goal

pub returns-clause-value : goal.returns-clause-value
returns-clause-value c =
    c.self.invariant.bytes.counted
    ∙ sym (bytes_shown c.self.inside.number.0 0 (map (row_of c.self.inside.cells) c.self.inside.places.items))
    ∙ ap (λ (s : SegmentValue). segment_bytes s) c.self.view_is

pub returns-clause-sound : goal.returns-clause-sound
returns-clause-sound c = segment_sound _ _ _ _ _ _ _ c.self.invariant.sound c.self.invariant.bytes c.args.self.now c.self.view_is
