-- What is told of words, by the order that they ask for.
use Rattle.std.proofs.Common.{◌≡◌, ◌∙◌, List, Option, Some, None, subst, sym}
use Rattle.k_words.specs.Words.{Text}
use Rattle.k_status.specs.declared.status.Status.{Status}
use Rattle.k_status.specs.declared.status.Status.TheVariants.{WriteFault}
use Rattle.k_status.specs.Ends.{Input, Output}
use Rattle.k_status.specs.Telling.{Answers}
use Rattle.k_run.specs.declared.words.Order.{Order}
use Rattle.k_run.specs.declared.words.Order.TheVariants.{OnThreads, OfFile}
use Rattle.k_run.specs.Tellings.{TellsOfOrder, TellsOfWords}
use Rattle.k_run.specs.Words.{order_of}

-- What is told of the order is told of the words that ask for it.
pub told_as : (words : List Text) (order : Option Order) (input : Input) (output : Output) (answer : Status) → order_of words ≡ order → Answers (TellsOfOrder order input) output answer
    → Answers (TellsOfWords words input) output answer
told_as words order input output answer said a = subst (λ (o : Option Order). Answers (TellsOfOrder o input) output answer) (sym said) a

-- Words that ask for an order are not words that ask for none.
pub other_order : (words : List Text) (order : Order) → order_of words ≡ Some order → ¬ (order_of words ≡ None)
other_order words order said none = let clash : Some order ≡ None = sym said ∙ none in cc

-- No status that a text is told with is that of a fault of the sink.
never_of : (order : Option Order) (input : Input) (text : Text) → ¬ TellsOfOrder order input WriteFault text
never_of (Some OnThreads) input text told = told.2
never_of (Some OfFile) input text told = told.2
never_of None input text told = absurd (let clash = told.0 in cc)

pub never : (words : List Text) (input : Input) (text : Text) → ¬ TellsOfWords words input WriteFault text
never words input text told = never_of (order_of words) input text told
