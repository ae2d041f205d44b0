use Rattle.std.proofs.Common.{◌≤◌, ◌+◌, length, subst}
use Rattle.k_cell.specs.Changes.{freed_at}
use Rattle.k_cell.specs.Ending.{freed_objects}
use Rattle.k_cell.specs.Holdings.{HoldingsValue}
use Rattle.k_cell.specs.Listening.{AreTold}
use Rattle.k_kernel.proofs.kernel.KernelCell.sweep_telling.Goals as goal

pub returns-clause-told : goal.returns-clause-told
returns-clause-told g c =
    subst (λ (x : HoldingsValue). length (g.L.Listener.heard c.args.listener.now) + freed_objects x.value ≤ g.L.Listener.room c.args.listener.now →
    AreTold (freed_at x.value) (freed_objects x.value) (g.L.Listener.heard c.args.listener.now) (g.L.Listener.heard c.sweep_telling.new.listener)) c.self.view_is
    c.sweep_telling.ensures.told
