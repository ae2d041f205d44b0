-- What a verdict says of a report.
use Rattle.k_words.specs.Words.{Text}
use Rattle.k_trace.specs.Named.{NamedTrace}
use Rattle.k_history.specs.Verdicts.{IsAccepted, IsRefused}
use Rattle.k_check.specs.declared.verdicts.Verdict.{Verdict}
use Rattle.k_check.specs.declared.verdicts.Verdict.TheVariants.{Good, Refused}

-- The report is good and refused at no line; or it is refused at this line and no other, and not good.
abbrev pub IsVerdict : NamedTrace → Text → Verdict → Type 0
IsVerdict t report Good = IsAccepted t report
IsVerdict t report (Refused n) = IsRefused t report n
