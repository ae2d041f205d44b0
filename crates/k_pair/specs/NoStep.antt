-- The cells and the book of no step.
use Rattle.std.specs.Prelude.{false, []}
use Rattle.k_tie.specs.Values.{NoteValue, blank_note, empty_journal, no_table}
use Rattle.k_commit.specs.k_cell.Holdings.{fresh_cell}
use Rattle.k_commit.specs.Met.{BeforeWith}
use Rattle.k_commit.specs.Others.{of_kernel}

abbrev no_note : NoteValue
no_note = blank_note no_table 0

-- what stands for the cells and the book of a step where none is named
abbrev pub no_step : BeforeWith
no_step = record {
  own = record {
    trace = record { version = 0; ceiling = 0; dir_fields = 0; types = []; limits = []; procs = []; shared_heaps = 0; operations = []; order = [] };
    cell = record { pid = record { 0 = 0 }; note = no_note; value = fresh_cell 0 0; bodies = []; bound = 0; segment_room = 0; serial_rooms = []; exit_room = 0; tail_room = 0 };
    book = record {
      value = record { ended = []; closed = false; shares = []; phases = []; shared_bytes = []; direct = []; maxima = []; homes = []; entries = []; pins = [] };
      journal = empty_journal no_table;
      rows = [];
      procs = [];
      ceiling = 0;
      entry_room = 0;
      pin_room = 0;
      event_room = 0;
      kept = 0;
    };
  };
  other = of_kernel (record { value = fresh_cell 0 0; note = no_note; bound = 0; segment_room = 0; serial_rooms = []; exit_room = 0 });
}
