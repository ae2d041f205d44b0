-- The two verdicts on a report.
use Rattle.std.specs.Prelude.{◌≡◌, ℕ}
use Rattle.k_words.specs.Words.{Text}
use Rattle.k_trace.specs.Named.{NamedTrace}
use Rattle.k_history.specs.Good.{IsGoodReport, IsRefusedAt}

-- The report is good, and refused at no line.
pub record IsAccepted (t : NamedTrace) (report : Text) : Type 0 where
  pub good : IsGoodReport t report
  pub not_refused : (n : ℕ) → ¬ IsRefusedAt t report n

-- The report is not good; it is refused at the line of this number, counted from 1, and at no other.
pub record IsRefused (t : NamedTrace) (report : Text) (n : ℕ) : Type 0 where
  pub refused : IsRefusedAt t report n
  pub alone : (m : ℕ) → IsRefusedAt t report m → m ≡ n
  pub not_good : ¬ IsGoodReport t report
