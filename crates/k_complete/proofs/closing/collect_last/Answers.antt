use Rattle.k_complete.proofs.ClosedKept.{can_close, can_end_last, collected_last, last_begun}
use Rattle.k_complete.proofs.closing.collect_last.Goals as goal

pub close_kernel-requires : goal.close_kernel-requires
close_kernel-requires g c = can_close g.world' c.args.kernel.now c.args.book.now c.requires

pub mark_kernel_collection-requires : goal.mark_kernel_collection-requires
mark_kernel_collection-requires g c = last_begun g.world' c.args.kernel.now c.args.book.now c.requires c.close_kernel.new.kernel c.close_kernel.new.book c.close_kernel.result c.close_kernel.ensures

pub end_kernel-requires : goal.end_kernel-requires
end_kernel-requires g c =
    can_end_last g.world' c.args.kernel.now c.args.book.now c.requires c.close_kernel.new.kernel c.close_kernel.new.book c.close_kernel.result c.close_kernel.ensures
    c.mark_kernel_collection.new.kernel c.mark_kernel_collection.ensures

pub returns : goal.returns
returns g c =
    collected_last g.world' c.args.kernel.now c.args.book.now c.requires c.close_kernel.new.kernel c.close_kernel.new.book c.close_kernel.result c.close_kernel.ensures
    c.mark_kernel_collection.new.kernel c.mark_kernel_collection.ensures c.end_kernel.new.kernel c.end_kernel.new.book c.end_kernel.result c.end_kernel.ensures
