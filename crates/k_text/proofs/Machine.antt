-- One name that opens every definition that a report is computed by.
use Rattle.std.specs.Prelude.{ℕ}
use Rattle.std.specs.Fmt.{digits}
use Rattle.k_types.specs.Owners.{owner_of_segment, bytes_by}
use Rattle.k_types.specs.Limits.{use_within, path_within, ancestors_within}
use Rattle.k_types.specs.Reach.{is_entered, is_held, roots_of, closure, reach_in}
use Rattle.k_types.specs.Updates.{count_done, set_register, create, write, add_exit, open_scan, set_phase, add_share, keep_objects, keep_exits, keep_shares, close_scan, clear_registers, end_process, turn_exits, set_max, close}
use Rattle.k_types.specs.Replies.{fault_where, first_fault, access_faults, passes_barrier, size_fault, faults, answer, reply_to}
use Rattle.k_types.specs.Effects.{with_exit_of_store, after_store, after_put, after_freeze, after_end_of, after_kill, effect, after_operation, survives, exit_stays, share_stays, after_ended, after_absorbed, after_closing, step}
use Rattle.k_types.specs.FileOrder.{file_order_from}
use Rattle.k_trace.specs.Spelling.{op_words}
use Rattle.k_text.specs.EventLines.{fault_words, reply_words, event_words, event_lines}
use Rattle.k_text.specs.Report.{object_line, graph_lines, root_lines, register_numbers, roots_of_process, roots_lines, exits_of_heap, exits_lines, share_lines, shares_of_process, shares_lines, fault_line, faults_lines, kernel_charge_line, limit_charge_line, process_charge_line, phase_words, shared_charge_line, charges_lines, report_lines}

unfoldable pub machine : ℕ
unfolding digits owner_of_segment bytes_by use_within path_within ancestors_within is_entered is_held roots_of closure reach_in count_done set_register create write add_exit open_scan set_phase add_share keep_objects keep_exits keep_shares close_scan clear_registers end_process turn_exits set_max close fault_where first_fault access_faults passes_barrier size_fault faults answer reply_to with_exit_of_store after_store after_put after_freeze after_end_of after_kill effect after_operation survives exit_stays share_stays after_ended after_absorbed after_closing step file_order_from op_words fault_words reply_words event_words event_lines object_line graph_lines root_lines register_numbers roots_of_process roots_lines exits_of_heap exits_lines share_lines shares_of_process shares_lines fault_line faults_lines kernel_charge_line limit_charge_line process_charge_line phase_words shared_charge_line charges_lines report_lines
machine = 0
