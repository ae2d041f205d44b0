use Rattle.std.proofs.Common.{◌∙◌, refl, sym}
use Rattle.std.proofs.lemmas.Bool.{false≢true}
use Rattle.k_keeper.proofs.alive.spelled.Goals as goal

pub returns-then-not-is_spelled-clause-why : goal.returns-then-not-is_spelled-clause-why
returns-then-not-is_spelled-clause-why c = record { error_is = refl; fails = λ on. false≢true (sym c.if-not-is_spelled.true ∙ c.is_spelled.ensures ∙ on) }
