use Rattle.std.proofs.Common.{ap, ◌∙◌, ◌++◌}
use Rattle.k_trace.specs.Meaning.{meaning_of}
use Rattle.k_opening.proofs.Reported.{rooms_added}
use Rattle.k_opening.proofs.reporting.report_rooms.Goals as goal

pub returns : goal.returns
returns c =
    rooms_added (meaning_of c.args.trace.now).trace c.requires.rules c.in_ok-shared.shared.items c.none-rooms.result c.add_heap.new.self c.add_processes.new.rooms c.add_shared.new.rooms c.all_stores.result
    c.in_ok-shared.ensures c.none-rooms.ensures c.all_stores.ensures c.in_ok-add_heap.ensures c.in_ok-add_processes.ensures
    (c.in_ok-add_shared.ensures ∙ ap (λ xs. c.add_processes.new.rooms ++ xs) c.deref.ensures.value)
