use Rattle.std.proofs.Common.{inl, inr}
use Rattle.k_history.proofs.Refusals.{one_line, good_is_not_refused}
use Rattle.k_reports.proofs.Proper.{proper}
use Rattle.k_history.proofs.Verdicts.{verdict}
use Rattle.k_reports.proofs.Spelled.{all_spelled}
use Rattle.k_history.proofs.laws.reports_are_good_or_refused.Goals as goal

pub returns : goal.returns
returns c t report is = elim (verdict t report (proper t is)) [
  | inl good ↦ inl (record { good = good; not_refused = λ n. good_is_not_refused t report n is (all_spelled t is) good })
  | inr bad ↦ inr (
    bad.0,
    record {
      refused = bad.1;
      alone = λ m other. one_line t report m bad.0 is other bad.1;
      not_good = λ good. good_is_not_refused t report bad.0 is (all_spelled t is) good bad.1;
    },
  )
]
