use Rattle.std.proofs.Common.{sym, subst, refl, List, [], ℕ}
use Rattle.k_still.specs.Opening.{ArePendingShared}
use Rattle.k_still.proofs.Preparation.{kernel_can_open, processes_pending, shared_pending}
use Rattle.k_still.proofs.beginning.open_heaps.Goals as goal

pub open_kernel-requires : goal.open_kernel-requires
open_kernel-requires g c =
    kernel_can_open g.world' c.args.setup.now c.args.ops.items c.args.prepared c.args.notes.items c.args.book c.requires _ c.from_vec-notes.ensures.items c.from_vec-serials.ensures.items

pub open_processes-requires : goal.open_processes-requires
open_processes-requires g c =
    processes_pending g.world' c.args.setup.now c.args.ops.items c.args.prepared c.args.notes.items c.args.book c.requires c.open_kernel.new.beginnings c.in_ok-kernel.ensures.beginnings

pub open_shared-requires : goal.open_shared-requires
open_shared-requires g c =
    subst (λ (exits : List ℕ). ArePendingShared g.world' c.args.setup.now exits c.open_processes.new.beginnings []) (sym c.deref.ensures.value)
    (shared_pending g.world' c.args.setup.now c.args.ops.items c.args.prepared c.args.notes.items c.args.book c.requires c.open_processes.new.beginnings c.in_ok-processes.ensures.beginnings)

pub returns : goal.returns
returns g c = record {
  stand = record {
    processes = c.in_ok-processes.ensures.processes;
    rest = record { kernel = c.in_ok-kernel.ensures.keeps; shared = c.in_ok-shared.ensures; book = c.requires.book };
  };
  published = c.in_ok-processes.ensures.published;
  book_is = refl;
}
