use Rattle.k_audit.proofs.VerdictLaws.{computed_verdict, one_verdict}
use Rattle.k_audit.proofs.laws.verdicts_are_one.Goals as goal

pub returns : goal.returns
returns c = record {
  one = λ names trace bytes a b rules named proper first second. one_verdict names trace (record { rules = rules; named = named; proper = proper }) bytes a b first second;
  computed = λ names trace bytes rules named proper. computed_verdict names trace (record { rules = rules; named = named; proper = proper }) bytes;
}
