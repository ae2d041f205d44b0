-- The summary of a run: eight lines, each with a word and a number.
use Rattle.std.specs.Prelude.{ℕ, ◌<◌, ◌^◌, List, [], ◌∷◌, length, decimal, codes}
use Rattle.k_types.specs.declared.event.Event.{Event}
use Rattle.k_types.specs.declared.names.Heap.TheVariants.{Kernel}
use Rattle.k_types.specs.Limits.{use_of}
use Rattle.k_types.specs.Numbers.{numbers_below}
use Rattle.k_types.specs.Owners.{bytes_of, charge_of}
use Rattle.k_types.specs.State.{State}
use Rattle.k_types.specs.Steps.{state_after}
use Rattle.k_types.specs.Totals.{total}
use Rattle.k_types.specs.Trace.{Trace, process_count}
use Rattle.k_words.specs.Words.{Text, text_of}
use Rattle.k_big.specs.Counts.{operations_in, faults_in, freed_in}
use Rattle.k_big.specs.Workload.{big_trace}

-- what all processes together are charged
abbrev pub charges_of : Trace → State → ℕ
charges_of trace st = total (charge_of trace st) (numbers_below (process_count trace))

-- the charges have a sum that is a number of 64 bits
abbrev pub HasSmallCharges : Trace → State → Type 0
HasSmallCharges trace st = charges_of trace st < 2 ^ 64

-- a line of a word and a number
abbrev pub count_words : Text → ℕ → List Text
count_words word number = word ∷ decimal number ∷ []

-- the lines of a history and the state that it left: how many objects each process was to make; the operations, the events, the
-- faults and the freed objects of the history; the bytes of the kernel's heap, the charges and what is used of the root's limit
abbrev pub summary_lines : ℕ → Trace → List Event → State → List (List Text)
summary_lines objects trace history st =
    count_words (codes "big") objects
    ∷ count_words (codes "operations") (total operations_in history)
    ∷ count_words (codes "events") (length history)
    ∷ count_words (codes "faults") (total faults_in history)
    ∷ count_words (codes "freed") (total freed_in history)
    ∷ count_words (codes "kernel") (bytes_of trace st Kernel)
    ∷ count_words (codes "live") (charges_of trace st)
    ∷ count_words (codes "root") (use_of trace st 0)
    ∷ []

-- the text of the summary of a history and a state
abbrev pub summary_over : ℕ → Trace → List Event → State → Text
summary_over objects trace history st = text_of (summary_lines objects trace history st)

-- the text of the summary of a history of the trace where each process makes so many objects
abbrev pub summary_text : ℕ → List Event → Text
summary_text objects history =
    let trace = (big_trace objects).trace in
    summary_over objects trace history (state_after trace history)
