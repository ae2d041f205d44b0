-- One name that opens every definition that a reading is computed by.
use Rattle.std.specs.Prelude.{ℕ}
use Rattle.k_trace.specs.Demands.{demands}
use Rattle.k_trace.specs.Forms.{new_form, knew_form, snew_form, store_form, load_form, move_form, drop_form, dir_form, put_form, get_form, share_form, freeze_form, attach_form, kill_form, resize_form, governing_op, sharing_op, bare_op, register_op, op_of}
use Rattle.k_reports.specs.Reading.{name_of_word, heap_named, bare_fault, fault_at, fault_of, word_reply, reply_of, ended_of, absorbed_of, closing_of, done_of, event_of}
use Rattle.k_reports.specs.Histories.{events_of_lines, history_of}

unfoldable pub reader : ℕ
unfolding demands new_form knew_form snew_form store_form load_form move_form drop_form dir_form put_form get_form share_form freeze_form attach_form kill_form resize_form governing_op sharing_op bare_op register_op op_of name_of_word heap_named bare_fault fault_at fault_of word_reply reply_of ended_of absorbed_of closing_of done_of event_of events_of_lines history_of
reader = 0
