-- One name that opens every definition by which a script is judged and translated.
use Rattle.std.specs.Prelude.{ℕ}
use Rattle.std.specs.Fmt.{digits}
use Rattle.k_types.specs.Owners.{owner_of_segment, bytes_by}
use Rattle.k_types.specs.Limits.{use_within, path_within}
use Rattle.k_trace.specs.Names.{is_reserved}
use Rattle.k_trace.specs.Demands.{demands as asks}
use Rattle.k_trace.specs.Forms.{new_form, knew_form, snew_form, store_form, load_form, move_form, drop_form, dir_form, put_form, get_form, share_form, freeze_form, attach_form, kill_form, resize_form, governing_op, sharing_op, bare_op, register_op, op_of, op_in}
use Rattle.k_trace.specs.Judgement.{line_in as trace_line, version_line as trace_version, kernel_line, line_of_types, type_line, root_line, line_of_limits, limit_line, proc_line, line_of_procs as trace_procs, later_line as trace_later, shared_line, operation_line as trace_operation, process_line}
use Rattle.k_spawn.specs.Reasons.{demands, also}
use Rattle.k_spawn.specs.Families.{reaped_within}
use Rattle.k_spawn.specs.Judgement.{version_line, header_line, child_line, spawn_form, reap_form, deed_of, deed_line, operation_line, later_line, line_of_procs, line_in, judged_line, judged_lines, judgement}

unfoldable pub judging : ℕ
unfolding digits owner_of_segment bytes_by use_within path_within is_reserved asks new_form knew_form snew_form store_form load_form move_form drop_form dir_form put_form get_form share_form freeze_form attach_form kill_form resize_form governing_op sharing_op bare_op register_op op_of op_in trace_line trace_version kernel_line line_of_types type_line root_line line_of_limits limit_line proc_line trace_procs trace_later shared_line trace_operation process_line demands also reaped_within version_line header_line child_line spawn_form reap_form deed_of deed_line operation_line later_line line_of_procs line_in judged_line judged_lines judgement
judging = 0
