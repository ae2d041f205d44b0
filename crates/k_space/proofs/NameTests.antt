-- What the test of two names says.
use Rattle.std.proofs.Common.{◌≡◌, true, eq-eqb}
use Rattle.std.proofs.lemmas.Bool.{and_from}
use Rattle.k_types.specs.declared.names.Name.{Name}
use Rattle.k_types.specs.Names.{name_eq}

pub name_eq-parts : (a b : Name) → a.seg.0 ≡ b.seg.0 → a.serial.0 ≡ b.serial.0 → name_eq a b ≡ true
name_eq-parts a b s t = and_from _ _ (eq-eqb a.seg.0 b.seg.0 s) (eq-eqb a.serial.0 b.serial.0 t)
