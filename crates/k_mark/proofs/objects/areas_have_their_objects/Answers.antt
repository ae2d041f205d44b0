use Rattle.std.proofs.Common.{◌≡◌, ◌&&◌, Option, Some, None, refl, ap, ◌∙◌}
use Rattle.k_laws.specs.k_types.declared.names.Name.{Name}
use Rattle.k_laws.specs.k_types.Names.{name_eq}
use Rattle.k_laws.specs.k_types.State.{Object, refers}
use Rattle.k_space.specs.Segments.{Row, object_of}
use Rattle.k_space.specs.Areas.{row_of_name}
use Rattle.k_mark.specs.Shown.{some_refers}
use Rattle.k_laws.proofs.NameTests.{name_eq_refl}
use Rattle.k_mark.proofs.Foreign.{area_has}
use Rattle.k_mark.proofs.Shown.{at_row, any_area}
use Rattle.k_mark.proofs.objects.areas_have_their_objects.Goals as goal

-- an object refers so
refers_there : (n m : Name) (o : Option Row) → at_row (λ (x : Object). name_eq x.name n && refers x m) n o ≡ some_refers o m
refers_there n m None = refl
refers_there n m (Some row) = ap (λ b. b && refers (object_of n.seg.0 n.serial.0 row) m) (name_eq_refl n)

pub returns-clause-has : goal.returns-clause-has
returns-clause-has c = area_has

pub returns-clause-refers : goal.returns-clause-refers
returns-clause-refers c = λ segments bound none n m.
    any_area (λ (x : Object). name_eq x.name n && refers x m) n (λ o e. ap (λ b. b && refers o m) e) segments bound none ∙ refers_there n m (row_of_name segments n)
