use Rattle.k_pair.proofs.barring.is_frozen_heap.Goals as goal

pub phase_of-requires : goal.phase_of-requires
phase_of-requires c = c.requires c.in-Shared.id c.in-Shared.is
