use Rattle.k_trace.specs.Meaning.{meaning_of}
use Rattle.k_still.proofs.first.first_cells.Given as goal

abbrev pub ghost-open_with : goal.ghost-open_with
ghost-open_with a = record { trace = (meaning_of a.trace).trace; table = a.tie }
