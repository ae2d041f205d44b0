use Rattle.k_ends.proofs.Collected.{can_end_kernel, ended_kernel}
use Rattle.k_ends.proofs.collecting.do_end_kernel.Goals as goal

pub end_kernel-requires : goal.end_kernel-requires
end_kernel-requires g c = can_end_kernel g.basis c.args.kernel.now c.args.book.now c.requires.kernel c.requires.book c.requires.room c.requires.in_phase

pub returns : goal.returns
returns g c =
    ended_kernel g.basis c.args.kernel.now c.args.book.now c.requires.kernel c.requires.book c.requires.room c.end_kernel.new.kernel c.end_kernel.new.book c.end_kernel.result c.end_kernel.ensures
