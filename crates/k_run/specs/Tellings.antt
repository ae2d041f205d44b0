-- What the program that runs traces alone tells of its words and its source.
use Rattle.std.specs.Prelude.{◌≡◌, List, Option, Some, None}
use Rattle.k_types.specs.Bounds.{most_trace_bytes}
use Rattle.k_words.specs.Words.{Text}
use Rattle.k_status.specs.declared.status.Status.{Status}
use Rattle.k_status.specs.declared.status.Status.TheVariants.{Usage}
use Rattle.k_status.specs.Ends.{Input}
use Rattle.k_status.specs.Reports.{IsFileReport, IsSomeReport}
use Rattle.k_status.specs.Telling.{TellsOfBytes, TellsOfSource}
use Rattle.k_run.specs.declared.words.Order.{Order}
use Rattle.k_run.specs.declared.words.Order.TheVariants.{OnThreads, OfFile}
use Rattle.k_run.specs.Words.{order_of, usage_text}

-- What each status tells of the order that is asked for and of the source, and of the text to be written: on threads the report of some
-- history of the trace, in the order of the file the report of that history, and where no order is asked for how the program is called.
abbrev pub TellsOfOrder : Option Order → Input → Status → Text → Type 0
TellsOfOrder (Some OnThreads) input status text = TellsOfSource most_trace_bytes (TellsOfBytes IsSomeReport) input status text
TellsOfOrder (Some OfFile) input status text = TellsOfSource most_trace_bytes (TellsOfBytes IsFileReport) input status text
TellsOfOrder None input status text = (status ≡ Usage) × (text ≡ usage_text)

-- The same of the words.
abbrev pub TellsOfWords : List Text → Input → Status → Text → Type 0
TellsOfWords words input status text = TellsOfOrder (order_of words) input status text
