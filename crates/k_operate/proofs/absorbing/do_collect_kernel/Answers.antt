use Rattle.std.proofs.Common.{refl}
use Rattle.k_types.specs.declared.names.Heap.TheVariants.{Kernel}
use Rattle.k_types.specs.declared.op.Op.TheVariants.{KCollect}
use Rattle.k_operate.proofs.Added.{adds_known, adds_with_end}
use Rattle.k_operate.proofs.absorbing.do_collect_kernel.Goals as goal

pub absorb_orphans-requires : goal.absorb_orphans-requires
absorb_orphans-requires g c = c.requires.rest

pub begin_kernel_collection-requires : goal.begin_kernel_collection-requires
begin_kernel_collection-requires g c = record {
  own = record {
    pair = record { process = c.requires.own.pair.process; book = c.absorb_orphans.ensures.rest.book };
    settled = c.requires.own.settled;
    next = c.requires.own.next;
  };
  kernel = c.absorb_orphans.ensures.rest.kernel;
  orphans = c.absorb_orphans.ensures.none;
}

pub mark_kernel_collection-requires : goal.mark_kernel_collection-requires
mark_kernel_collection-requires g c = c.begin_kernel_collection.ensures.kernel

pub sweep_kernel_collection-freed-requires : goal.sweep_kernel_collection-freed-requires
sweep_kernel_collection-freed-requires g c = c.mark_kernel_collection.ensures

pub end_kernel_collection-requires : goal.end_kernel_collection-requires
end_kernel_collection-requires g c = record { kernel = c.sweep_kernel_collection-freed.ensures; book = c.begin_kernel_collection.ensures.own.pair.book }

pub returns : goal.returns
returns g c = record {
  done = record {
    process = c.begin_kernel_collection.ensures.own.pair.process;
    rest = record { kernel = c.end_kernel_collection.ensures.kernel; shared = c.absorb_orphans.ensures.rest.shared; book = c.end_kernel_collection.ensures.book };
    done = c.begin_kernel_collection.ensures.own.done;
  };
  events =
      adds_known g.world'.trace KCollect c.args.process.now.cell.pid c.args.process.now c.begin_kernel_collection.new.process c.args.book.now c.end_kernel_collection.new.book c.requires.own.settled c.begin_kernel_collection.ensures.own.settled
      (adds_with_end g.world'.trace c.args.process.now.cell.pid KCollect Kernel c.args.book.now.journal.list c.absorb_orphans.new.book.journal.list c.begin_kernel_collection.new.book.journal.list c.end_kernel_collection.new.book.journal.list refl
      c.absorb_orphans.ensures.journal c.begin_kernel_collection.ensures.events c.end_kernel_collection.ensures.events);
}
