use Rattle.std.proofs.Common.{◌≡◌}
use Rattle.k_shared.specs.SharedHeaps.{SharedRecord, opened_shared}
use Rattle.k_guests.specs.Serving.{SharedServes, basis_of}
use Rattle.k_process.proofs.Lists.{ok_weaker}
use Rattle.k_guests.proofs.Made.{heap_made}
use Rattle.k_guests.proofs.making.make_heap.Goals as goal

pub returns : goal.returns
returns c =
    ok_weaker (λ (s : SharedRecord). s ≡ opened_shared c.args.terms.now.setup c.args.id c.args.terms.now.rooms.objects c.args.terms.now.rooms.exits c.args.note)
    (λ s. SharedServes (basis_of c.args.terms.now) c.args.note.table s × (s.id ≡ c.args.id))
    (λ s is. heap_made c.args.terms.now c.requires.can c.args.id c.args.note s c.requires is) c.make.result c.make.ensures
