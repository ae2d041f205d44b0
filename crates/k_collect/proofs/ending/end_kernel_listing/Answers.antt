use Rattle.std.proofs.Common.{◌≡◌, [], List, length, ap, subst, arith}
use Rattle.k_types.specs.declared.names.Name.{Name}
use Rattle.k_mark.specs.Listening.{FreedNames}
use Rattle.k_collect.specs.Freed.{AreFreed}
use Rattle.k_collect.proofs.ending.end_kernel_listing.Goals as goal

pub returns-clause-listed : goal.returns-clause-listed
returns-clause-listed g c = λ fits.
    let none : c.clear.new.self.names ≡ [] = ap (λ (f : FreedNames). f.names) c.clear.ensures in
    let empty : length c.clear.new.self.names ≡ 0 = ap length none in
    let room : c.clear.new.self.room ≡ c.args.freed.now.room = ap (λ (f : FreedNames). f.room) c.clear.ensures in
    subst (λ (old : List Name). AreFreed g.trace c.args.book.now.journal.list c.end_kernel_telling.result old c.end_kernel_telling.new.listener.names) none
    (c.end_kernel_telling.ensures.told (omega (arith, empty, room, fits)))
