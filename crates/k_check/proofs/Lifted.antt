-- A report that is good, or refused at a line, is so and nothing else.
use Rattle.k_words.specs.Words.{Text}
use Rattle.std.proofs.Common.{ℕ}
use Rattle.k_trace.specs.Named.{NamedTrace}
use Rattle.k_trace.specs.Rules.{IsTrace}
use Rattle.k_history.specs.Good.{IsGoodReport, IsRefusedAt}
use Rattle.k_history.proofs.Refusals.{one_line, good_is_not_refused}
use Rattle.k_history.specs.Verdicts.{IsAccepted, IsRefused}
use Rattle.k_reports.proofs.Spelled.{all_spelled}

pub accepted : (t : NamedTrace) (report : Text) → IsTrace t → IsGoodReport t report → IsAccepted t report
accepted t report is good = record { good = good; not_refused = λ n. good_is_not_refused t report n is (all_spelled t is) good }

pub refused : (t : NamedTrace) (report : Text) (n : ℕ) → IsTrace t → IsRefusedAt t report n → IsRefused t report n
refused t report n is bad = record {
  refused = bad;
  alone = λ m other. one_line t report m n is other bad;
  not_good = λ good. good_is_not_refused t report n is (all_spelled t is) good bad;
}
