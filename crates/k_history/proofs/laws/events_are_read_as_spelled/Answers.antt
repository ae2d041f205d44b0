use Rattle.std.proofs.Common.{◌∙◌, sym, ap}
use Rattle.k_reports.specs.Reading.{event_of}
use Rattle.k_reports.proofs.SpelledEvents.{read_event_words, event_words_read}
use Rattle.k_history.proofs.laws.events_are_read_as_spelled.Goals as goal

pub returns : goal.returns
returns c names ws e proper = (λ h. read_event_words names ws e h, λ h. ap (event_of names) (sym h.1) ∙ event_words_read names e proper h.0)
