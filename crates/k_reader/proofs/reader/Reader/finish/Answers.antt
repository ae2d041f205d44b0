use Rattle.std.proofs.Common.{ap}
use Rattle.k_reader.proofs.reader.Reader.finish.Goals as goal

pub returns : goal.returns
returns c =
    rw (c.in_ok-types.ensures, c.deref.ensures.value, c.shared_count-shared.ensures.count, c.into_parts-ops.ensures.operations, c.into_parts-ops.ensures.order)
    (ap (λ s. s.said) c.self.view_is)
