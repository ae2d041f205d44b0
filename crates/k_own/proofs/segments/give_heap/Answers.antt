use Rattle.std.proofs.Common.{◌+◌, subst}
use Rattle.k_types.specs.declared.names.Pid.{Pid}
use Rattle.k_commit.specs.k_cell.Holdings.{HasGivenSegment}
use Rattle.k_commit.specs.k_heap.Heaps.{holdings_of, own_segment}
use Rattle.k_own.proofs.Given.{all_given, bytes_fit}
use Rattle.k_own.proofs.segments.give_heap.Goals as goal

pub take_heap-requires-clause-bytes : goal.take_heap-requires-clause-bytes
take_heap-requires-clause-bytes c =
    bytes_fit (own_segment c.args.cell.now.pid) (holdings_of c.args.cell.now) (holdings_of c.take_segment.new.self) c.args.kernel.now c.in-Some.segment c.requires.can
    (subst (λ (p : Pid). HasGivenSegment (holdings_of c.args.cell.now) (holdings_of c.take_segment.new.self) (p.0 + 1) c.in-Some.segment) c.pid.ensures c.in-Some.ensures.some)

pub returns-clause-given : goal.returns-clause-given
returns-clause-given c =
    all_given (own_segment c.args.cell.now.pid) (holdings_of c.args.cell.now) (holdings_of c.take_segment.new.self) c.args.kernel.now c.in-Some.segment c.requires.can
    (subst (λ (p : Pid). HasGivenSegment (holdings_of c.args.cell.now) (holdings_of c.take_segment.new.self) (p.0 + 1) c.in-Some.segment) c.pid.ensures c.in-Some.ensures.some)
    c.take_heap.new.self c.take_heap.ensures.added c.take_heap.ensures.there
