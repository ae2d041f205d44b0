use Rattle.k_worker.proofs.collecting.try_collect_kernel.Goals as goal

pub mark_kernel_collection-requires : goal.mark_kernel_collection-requires
mark_kernel_collection-requires g c = c.in-None.ensures.1

pub returns-in-Some : goal.returns-in-Some
returns-in-Some g c = c.in-Some.ensures.0

pub returns-in-None : goal.returns-in-None
returns-in-None g c = c.in-None.ensures.0
