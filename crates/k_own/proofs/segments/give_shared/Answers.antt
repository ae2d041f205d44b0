use Rattle.std.proofs.Common.{subst}
use Rattle.k_types.specs.declared.names.Seg.{Seg}
use Rattle.k_commit.specs.k_cell.Holdings.{HasGivenSegment}
use Rattle.k_commit.specs.k_shared.SharedHeaps.{holdings_of}
use Rattle.k_own.proofs.Given.{all_given, bytes_fit}
use Rattle.k_own.proofs.segments.give_shared.Goals as goal

pub absorb-requires-clause-bytes : goal.absorb-requires-clause-bytes
absorb-requires-clause-bytes c =
    bytes_fit c.args.shared.now.seg.0 (holdings_of c.args.shared.now) (holdings_of c.take_segment.new.self) c.args.kernel.now c.in-Some.segment c.requires
    (subst (λ (n : Seg). HasGivenSegment (holdings_of c.args.shared.now) (holdings_of c.take_segment.new.self) n.0 c.in-Some.segment) c.seg-seg.ensures c.in-Some.ensures.some)

pub returns-clause-given : goal.returns-clause-given
returns-clause-given c =
    all_given c.args.shared.now.seg.0 (holdings_of c.args.shared.now) (holdings_of c.take_segment.new.self) c.args.kernel.now c.in-Some.segment c.requires
    (subst (λ (n : Seg). HasGivenSegment (holdings_of c.args.shared.now) (holdings_of c.take_segment.new.self) n.0 c.in-Some.segment) c.seg-seg.ensures c.in-Some.ensures.some)
    c.absorb.new.self c.absorb.ensures.added c.absorb.ensures.there
