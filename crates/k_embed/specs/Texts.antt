-- What is printed of a host behind one call, and what is copied of it.
use Rattle.std.specs.Prelude.{◌≡◌, ℕ, ◌-◌, ◌++◌, ◌==◌, if◌then◌else◌, List, [], Option, Some, None, Result, Ok, Err, IfErr, IfOk, OnErr, drop, length, min, take}
use Rattle.k_chronicle.specs.k_keeper.Words.{Text}
use Rattle.k_chronicle.specs.k_keeper.Keeping.{KeeperValue}
use Rattle.k_chronicle.specs.k_keeper.Publishing.{HasPublishedEach}
use Rattle.k_chronicle.specs.k_keeper.k_host.Hosts.{HostValue}
use Rattle.k_chronicle.specs.Texts.{Texts}
use Rattle.k_chronicle.specs.PrintError.{PrintError}
use Rattle.k_chronicle.specs.PrintError.TheVariants.{NoMemory, Unspelled, TooMany, TooLong, Open, Over}
use Rattle.k_chronicle.specs.Printed.{AreTexts}
use Rattle.k_chronicle.specs.declared.errors.ChronicleError.{ChronicleError}
use Rattle.k_chronicle.specs.declared.errors.ChronicleError.TheVariants.{Forgotten, Print}
use Rattle.k_chronicle.specs.Chronicle.{IsNotTold, journal_in}
use Rattle.k_embed.specs.declared.messages.Answer.{Answer}
use Rattle.k_embed.specs.Codes.{plain}

-- how many bytes the texts have, the trace in the place of a segment and the report as the number
abbrev pub of_texts : Texts → Answer
of_texts t = record { status = 0; fault = 0; at = 0; what = 4; seg = length t.trace.items; serial = 0; number = length t.report.items }

-- why there are none
abbrev pub of_unprintable : PrintError → Answer
of_unprintable (NoMemory refused) = plain 6 0 0
of_unprintable Unspelled = plain 1 0 0
of_unprintable TooMany = plain 14 0 0
of_unprintable TooLong = plain 15 0 0
of_unprintable Open = plain 4 0 0
of_unprintable Over = plain 16 0 0

abbrev pub of_unprinted : ChronicleError → Answer
of_unprinted Forgotten = plain 13 0 0
of_unprinted (Print why) = of_unprintable why

-- what came of it
abbrev pub of_printed : Result Texts ChronicleError → Answer
of_printed (Ok t) = of_texts t
of_printed (Err why) = of_unprinted why

-- what each process did inside its heap is published, and the answer has nothing to tell
pub record IsPublished (old new : KeeperValue) (answer : Answer) : Type 0 where
  pub published : HasPublishedEach old.host new.host
  pub rest : new ≡ record old { host = new.host }
  pub shown : answer ≡ plain 0 0 0

-- the texts of all that is published are there, which a check accepts, and the answer is how many bytes they have; or those before are
-- there still, and the answer says what is in the way
pub record IsPrinted (host : HostValue) (old new : Option Texts) (answer : Answer) : Type 0 where
  pub came : Result Texts ChronicleError
  pub shown : answer ≡ of_printed came
  pub done : IfOk came (λ t. (new ≡ Some t) × AreTexts (journal_in host) t)
  pub same : OnErr came (new ≡ old)
  pub why : IfErr came (λ e. IsNotTold host e)

-- the bytes of the trace where the number is 0, and of the report where it is 1; none where there is no such text
abbrev pub bytes_of : Option Texts → ℕ → Text
bytes_of (Some t) which = if which == 0 then t.trace.items else if which == 1 then t.report.items else []
bytes_of None which = []

-- as many bytes as there are from that place on and as the array has room for stand at its front now, behind which it is as it was
pub record IsCopied (text : Text) (from : ℕ) (old new : List ℕ) (count : ℕ) : Type 0 where
  pub as_many : count ≡ min (length text - from) (length old)
  pub new_is : new ≡ take count (drop from text) ++ drop count old
