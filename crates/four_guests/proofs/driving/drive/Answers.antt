use Rattle.std.proofs.Common.{refl, rules, sym, subst}
use Rattle.k_parts.specs.Parts.{IsNamed, IsOf}
use Rattle.k_parts.specs.Splitting.{home_of}
use Rattle.four_guests.proofs.driving.drive.Goals as goal

pub split-requires-clause-named : goal.split-requires-clause-named
split-requires-clause-named g c = subst (λ named. IsOf named (home_of c.args.host 1)) (sym c.requires.named) refl

pub take_all-requires : goal.take_all-requires
take_all-requires g c = let named : IsNamed g.H.HostName.home = subst IsNamed (sym c.requires.named) refl in search (rules, named)
