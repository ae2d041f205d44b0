-- The bounds of a trace. Each is the constant of that name in the code.
use Rattle.std.specs.Prelude.{ℕ, ◌^◌}

-- the number of a process's registers
abbrev pub register_count : ℕ
register_count = 16

-- the most operations of a trace, of all processes together
abbrev pub most_operations : ℕ
most_operations = 200000

-- the most processes of a trace
abbrev pub most_processes : ℕ
most_processes = 64

-- the most shared heaps of a trace
abbrev pub most_shared_heaps : ℕ
most_shared_heaps = 64

-- the most limits of a trace
abbrev pub most_limits : ℕ
most_limits = 128

-- the most types of a trace
abbrev pub most_types : ℕ
most_types = 256

-- the most fields of an object
abbrev pub most_fields : ℕ
most_fields = 16

-- each maximum of a limit is below this, in bytes, and so is the kernel's ceiling
abbrev pub maximum_below : ℕ
maximum_below = 2 ^ 40

-- the most bytes of the text of a trace
abbrev pub most_trace_bytes : ℕ
most_trace_bytes = 16777216

-- the most bytes of what a check reads
abbrev pub most_check_bytes : ℕ
most_check_bytes = 67108864

-- the most bytes of a line, without its end
abbrev pub most_line_bytes : ℕ
most_line_bytes = 4096

-- the most words of a line
abbrev pub most_words : ℕ
most_words = 18

-- the most bytes of a declared name
abbrev pub most_name_bytes : ℕ
most_name_bytes = 32
