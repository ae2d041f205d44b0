use Rattle.k_pair.specs.Remembered.{owners_of}
use Rattle.k_pair.proofs.barring.may_store.Given as goal

abbrev pub ghost-passes : goal.ghost-passes
ghost-passes g a = (owners_of g.S.StepName.before)
