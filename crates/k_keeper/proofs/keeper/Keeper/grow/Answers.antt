use Rattle.std.proofs.Common.{◌+◌, ◌-◌, ◌∙◌, sym, ap, subst, length, arith}
use Rattle.k_host.specs.Listening.{FreedNames}
use Rattle.k_host.specs.k_guests.declared.rooms.Rooms.{Rooms}
use Rattle.k_keeper.specs.Keeping.{IsKept}
use Rattle.k_keeper.proofs.Grown.{grown_kept, grown_most, grown_objects, more_objects}
use Rattle.k_keeper.proofs.keeper.Keeper.grow.Goals as goal

pub invariant_of-self-2 : goal.invariant_of-self-2
invariant_of-self-2 c =
    let grown = c.in_ok-kept.ensures.grown in
    let more = more_objects c.self.inside.host c.grow.new.self c.args.rooms c.in_ok-kept.kept grown c.self.inside.most c.most_objects-most.result c.self.invariant.most c.most_objects-most.ensures in
    record {
      kept =
          subst (λ (r : Rooms). IsKept c.grow.new.self (c.self.inside.left + (c.args.rooms.events - r.events))) (sym c.rooms.ensures)
          (grown_kept c.self.inside.host c.grow.new.self c.args.rooms c.in_ok-kept.kept grown c.self.inside.left c.self.invariant.kept c.serves.ensures);
      counted = grown_objects c.self.inside.host c.grow.new.self c.args.rooms c.in_ok-kept.kept grown ∙ c.self.invariant.counted;
      listed = let listed = c.self.invariant.listed in omega (arith, listed, more);
      room = ap (λ (f : FreedNames). f.room) c.move_into.ensures ∙ ap (λ (f : FreedNames). f.room) c.in_ok-freed.ensures;
      named = let named = c.self.invariant.named in let same = ap (λ (f : FreedNames). length f.names) c.move_into.ensures in omega (arith, named, same, more);
      most = grown_most c.self.inside.host c.grow.new.self c.args.rooms c.in_ok-kept.kept grown c.most_objects-most.result c.most_objects-most.ensures;
    }
