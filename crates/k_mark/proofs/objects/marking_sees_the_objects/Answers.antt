use Rattle.k_mark.proofs.OfParts.{shows}
use Rattle.k_mark.proofs.objects.marking_sees_the_objects.Goals as goal

pub returns : goal.returns
returns c = λ area bound none. shows area bound none
