-- The worked readings, computed.
use Rattle.std.proofs.Common.{refl}
use Rattle.k_history.specs.Worked.{NamesAreRead, FaultsAreRead, OtherEventsAreRead, OtherLinesAreNone, HistoriesAreRead}
use Rattle.k_history.proofs.Reader.{reader}

pub names_are_read : NamesAreRead
unfolding reader
names_are_read = record { made = refl; made_by_kernel = refl; made_in_shared = refl; loaded = refl; loaded_null = refl; any_reply = refl; number = refl; ok = refl; process = refl; limit = refl }

pub faults_are_read : FaultsAreRead
unfolding reader
faults_are_read = record { null = refl; foreign = refl; not_sharer = refl; no_field = refl; wrong_kind = refl; frozen = refl; segv = refl; not_populating = refl; not_frozen = refl; taken = refl; limit_full = refl; kernel_full = refl; proc_not_below = refl; limit_not_below = refl; in_use = refl }

pub other_events_are_read : OtherEventsAreRead
unfolding reader
other_events_are_read = record { of_kernel = refl; of_process = refl; of_shared = refl; absorbed = refl; closing = refl }

pub other_lines_are_none : OtherLinesAreNone
unfolding reader
other_lines_are_none = record { no_reply = refl; empty_reply = refl; two_replies = refl; two_equals = refl; no_process = refl; no_operation = refl; great_serial = refl; two_serials = refl; no_serial = refl; no_segment = refl; great_number = refl; great_maximum = refl; no_such_limit = refl; no_such_process = refl; no_fault = refl; no_such_fault = refl; fault_without_name = refl; fault_with_name = refl; great_count = refl; no_heap = refl; not_a_shared_heap = refl; two_words = refl; nothing = refl; two_spaces = refl }

pub histories_are_read : HistoriesAreRead
unfolding reader
histories_are_read = record { events = refl; none = refl; first_line = refl; empty = refl; bad_line = refl; no_graph = refl; first_line_alone = refl; last_line_without_feed = refl; empty_line = refl }
