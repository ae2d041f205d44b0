use Rattle.std.proofs.Common.{◌≡◌, replicate}
use Rattle.k_space.specs.Objects.{new_body}
use Rattle.k_guests.proofs.making.make_bodies.Given as goal

abbrev pub invariant-loop : goal.invariant-loop
invariant-loop l = l.made.items ≡ replicate l.counter (new_body l.terms.setup.types l.terms.ty)
