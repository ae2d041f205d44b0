use Rattle.std.proofs.Common.{sym, subst}
use Rattle.k_operate.specs.k_process.Heaps.{value_of}
use Rattle.k_operate.specs.k_process.Over.{BookEnds}
use Rattle.k_complete.proofs.EndKept.{cells_met}
use Rattle.k_operate.proofs.Kept.{kernel_can_meet}
use Rattle.k_complete.proofs.ending.meet_all.Goals as goal

pub meet_processes-requires : goal.meet_processes-requires
meet_processes-requires g c = record { processes = c.requires.processes; book = c.requires.book }

pub meet_kernel-requires : goal.meet_kernel-requires
meet_kernel-requires g c =
    kernel_can_meet g.world'.trace g.world'.table c.meet_processes.new.book c.meet_processes.new.book c.meet_processes.ensures.stand.book.stands c.meet_processes.ensures.stand.book.table c.args.heaps.now.kernel c.requires.kernel

pub meet_heaps-requires : goal.meet_heaps-requires
meet_heaps-requires g c = record { heaps = c.requires.shared; book = subst (BookEnds g.world') (sym c.meet_kernel.ensures.book_is) c.meet_processes.ensures.stand.book }

pub returns : goal.returns
returns g c =
    cells_met g.world' (value_of c.args.heaps.now) c.meet_processes.new.processes.items c.meet_kernel.new.kernel c.meet_heaps.new.shared.items c.meet_processes.new.book c.meet_kernel.new.book c.meet_heaps.new.book c.requires c.meet_processes.ensures c.meet_kernel.ensures c.meet_heaps.ensures
