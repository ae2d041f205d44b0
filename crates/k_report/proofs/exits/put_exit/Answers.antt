use Rattle.k_report.proofs.Known.{named_heap}
use Rattle.k_report.proofs.exits.put_exit.Goals as goal

pub heap_name-requires : goal.heap_name-requires
heap_name-requires g c = named_heap _ _ c.args.heap c.requires.named c.requires.heap
