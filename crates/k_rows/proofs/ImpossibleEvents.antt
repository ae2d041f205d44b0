-- Events that are not possible.
use Rattle.std.proofs.Common.{refl, sym, ap, arith, lit<}
use Rattle.std.proofs.lemmas.Bool.{false≢true}
use Rattle.k_rows.specs.Words.{usual, governed}
use Rattle.k_rows.specs.Worked.{IsImpossibleAfter}
use Rattle.k_rows.specs.Impossible.{before_an_operation_of_no_process, an_operation_of_no_process, before_an_operation_after_an_exit, an_operation_after_an_exit, before_a_register_that_is_not_there, a_register_that_is_not_there, before_a_type_that_is_not_there, a_type_that_is_not_there, before_a_shared_heap_that_is_not_there, a_shared_heap_that_is_not_there, before_a_move_on_a_scanned_heap, a_move_on_a_scanned_heap, before_a_put_on_a_scanned_heap, a_put_on_a_scanned_heap, before_a_get_on_a_scanned_heap, a_get_on_a_scanned_heap, before_an_allocation_in_a_scanned_kernel, an_allocation_in_a_scanned_kernel, before_a_put_into_a_scanned_kernel, a_put_into_a_scanned_kernel, before_a_second_collection_of_a_heap, a_second_collection_of_a_heap, before_a_kernel_collection_beside_an_orphan, a_kernel_collection_beside_an_orphan, before_a_wrong_name, a_wrong_name, before_a_fault_that_is_not_there, a_fault_that_is_not_there, before_a_fault_that_is_missed, a_fault_that_is_missed, before_an_end_without_a_collection, an_end_without_a_collection, before_one_object_too_many, one_object_too_many, before_one_byte_too_few, one_byte_too_few, before_an_exit_item_too_many, an_exit_item_too_many, before_a_share_too_many, a_share_too_many, before_absorbing_a_heap_that_is_not_there, absorbing_a_heap_that_is_not_there, before_absorbing_an_unmade_heap, absorbing_an_unmade_heap, before_absorbing_a_shared_heap_in_use, absorbing_a_shared_heap_in_use, before_absorbing_into_a_scanned_kernel, absorbing_into_a_scanned_kernel, before_closing_before_all_have_ended, closing_before_all_have_ended, before_closing_beside_an_orphan, closing_beside_an_orphan, before_closing_a_scanned_kernel, closing_a_scanned_kernel, before_closing_twice, closing_twice, before_a_kill_of_no_process, a_kill_of_no_process, before_a_kill_while_the_target_is_scanned, a_kill_while_the_target_is_scanned, before_a_kill_while_the_kernel_is_scanned, a_kill_while_the_kernel_is_scanned, before_a_kill_from_beside, a_kill_from_beside, before_an_operation_after_a_kill, an_operation_after_a_kill, before_a_resize_of_no_limit, a_resize_of_no_limit, before_a_resize_beyond_all_maxima, a_resize_beyond_all_maxima, before_a_resize_below_what_is_used, a_resize_below_what_is_used, before_a_resize_beyond_what_is_left, a_resize_beyond_what_is_left}
use Rattle.k_rows.proofs.Machine.{machine}
use Rattle.k_rows.proofs.Replies.{name_in, is_refused, is_done}

pub an_operation_of_no_process_is_not : IsImpossibleAfter usual before_an_operation_of_no_process an_operation_of_no_process
unfolding machine
an_operation_of_no_process_is_not = record { legal = tt; not = λ possible. omega (arith, possible.known) }

pub an_operation_after_an_exit_is_not : IsImpossibleAfter usual before_an_operation_after_an_exit an_operation_after_an_exit
unfolding machine
an_operation_after_an_exit_is_not = record {
  legal = (
    record { known = lit< tt; lives = refl; in_range = refl; idle = refl; orphans = refl; replied = refl },
    tt,
  );
  not = λ possible. false≢true (sym possible.lives);
}

pub a_register_that_is_not_there_is_not : IsImpossibleAfter usual before_a_register_that_is_not_there a_register_that_is_not_there
unfolding machine
a_register_that_is_not_there_is_not = record { legal = tt; not = λ possible. false≢true possible.in_range }

pub a_type_that_is_not_there_is_not : IsImpossibleAfter usual before_a_type_that_is_not_there a_type_that_is_not_there
unfolding machine
a_type_that_is_not_there_is_not = record { legal = tt; not = λ possible. false≢true possible.in_range }

pub a_shared_heap_that_is_not_there_is_not : IsImpossibleAfter usual before_a_shared_heap_that_is_not_there a_shared_heap_that_is_not_there
unfolding machine
a_shared_heap_that_is_not_there_is_not = record { legal = tt; not = λ possible. false≢true possible.in_range }

pub a_move_on_a_scanned_heap_is_not : IsImpossibleAfter usual before_a_move_on_a_scanned_heap a_move_on_a_scanned_heap
unfolding machine
a_move_on_a_scanned_heap_is_not = record {
  legal = (
    record { known = lit< tt; lives = refl; in_range = refl; idle = refl; orphans = refl; replied = refl },
    (
      record { known = lit< tt; lives = refl; in_range = refl; idle = refl; orphans = refl; replied = refl },
      tt,
    ),
  );
  not = λ possible. false≢true possible.idle;
}

pub a_put_on_a_scanned_heap_is_not : IsImpossibleAfter usual before_a_put_on_a_scanned_heap a_put_on_a_scanned_heap
unfolding machine
a_put_on_a_scanned_heap_is_not = record {
  legal = (
    record { known = lit< tt; lives = refl; in_range = refl; idle = refl; orphans = refl; replied = refl },
    (
      record { known = lit< tt; lives = refl; in_range = refl; idle = refl; orphans = refl; replied = refl },
      tt,
    ),
  );
  not = λ possible. false≢true possible.idle;
}

pub a_get_on_a_scanned_heap_is_not : IsImpossibleAfter usual before_a_get_on_a_scanned_heap a_get_on_a_scanned_heap
unfolding machine
a_get_on_a_scanned_heap_is_not = record {
  legal = (
    record { known = lit< tt; lives = refl; in_range = refl; idle = refl; orphans = refl; replied = refl },
    (
      record { known = lit< tt; lives = refl; in_range = refl; idle = refl; orphans = refl; replied = refl },
      tt,
    ),
  );
  not = λ possible. false≢true possible.idle;
}

pub an_allocation_in_a_scanned_kernel_is_not : IsImpossibleAfter usual before_an_allocation_in_a_scanned_kernel an_allocation_in_a_scanned_kernel
unfolding machine
an_allocation_in_a_scanned_kernel_is_not = record {
  legal = (
    record { known = lit< tt; lives = refl; in_range = refl; idle = refl; orphans = refl; replied = refl },
    tt,
  );
  not = λ possible. false≢true possible.idle;
}

pub a_put_into_a_scanned_kernel_is_not : IsImpossibleAfter usual before_a_put_into_a_scanned_kernel a_put_into_a_scanned_kernel
unfolding machine
a_put_into_a_scanned_kernel_is_not = record {
  legal = (
    record { known = lit< tt; lives = refl; in_range = refl; idle = refl; orphans = refl; replied = refl },
    (
      record { known = lit< tt; lives = refl; in_range = refl; idle = refl; orphans = refl; replied = refl },
      tt,
    ),
  );
  not = λ possible. false≢true possible.idle;
}

pub a_second_collection_of_a_heap_is_not : IsImpossibleAfter usual before_a_second_collection_of_a_heap a_second_collection_of_a_heap
unfolding machine
a_second_collection_of_a_heap_is_not = record {
  legal = (
    record { known = lit< tt; lives = refl; in_range = refl; idle = refl; orphans = refl; replied = refl },
    tt,
  );
  not = λ possible. false≢true possible.idle;
}

pub a_kernel_collection_beside_an_orphan_is_not : IsImpossibleAfter usual before_a_kernel_collection_beside_an_orphan a_kernel_collection_beside_an_orphan
unfolding machine
a_kernel_collection_beside_an_orphan_is_not = record {
  legal = (
    record { known = lit< tt; lives = refl; in_range = refl; idle = refl; orphans = refl; replied = refl },
    (
      record { known = lit< tt; lives = refl; in_range = refl; idle = refl; orphans = refl; replied = refl },
      tt,
    ),
  );
  not = λ possible. false≢true possible.orphans;
}

pub a_wrong_name_is_not : IsImpossibleAfter usual before_a_wrong_name a_wrong_name
unfolding machine
a_wrong_name_is_not = record { legal = tt; not = λ possible. omega (arith, ap name_in possible.replied) }

pub a_fault_that_is_not_there_is_not : IsImpossibleAfter usual before_a_fault_that_is_not_there a_fault_that_is_not_there
unfolding machine
a_fault_that_is_not_there_is_not = record { legal = tt; not = λ possible. false≢true (sym (ap is_refused possible.replied)) }

pub a_fault_that_is_missed_is_not : IsImpossibleAfter usual before_a_fault_that_is_missed a_fault_that_is_missed
unfolding machine
a_fault_that_is_missed_is_not = record { legal = tt; not = λ possible. false≢true (sym (ap is_done possible.replied)) }

pub an_end_without_a_collection_is_not : IsImpossibleAfter usual before_an_end_without_a_collection an_end_without_a_collection
unfolding machine
an_end_without_a_collection_is_not = record { legal = tt; not = λ possible. false≢true possible.scanned }

pub one_object_too_many_is_not : IsImpossibleAfter usual before_one_object_too_many one_object_too_many
unfolding machine
one_object_too_many_is_not = record {
  legal = (
    record { known = lit< tt; lives = refl; in_range = refl; idle = refl; orphans = refl; replied = refl },
    (
      record { known = lit< tt; lives = refl; in_range = refl; idle = refl; orphans = refl; replied = refl },
      (
        record { known = lit< tt; lives = refl; in_range = refl; idle = refl; orphans = refl; replied = refl },
        tt,
      ),
    ),
  );
  not = λ possible. omega (arith, possible.objects_gone);
}

pub one_byte_too_few_is_not : IsImpossibleAfter usual before_one_byte_too_few one_byte_too_few
unfolding machine
one_byte_too_few_is_not = record {
  legal = (
    record { known = lit< tt; lives = refl; in_range = refl; idle = refl; orphans = refl; replied = refl },
    (
      record { known = lit< tt; lives = refl; in_range = refl; idle = refl; orphans = refl; replied = refl },
      (
        record { known = lit< tt; lives = refl; in_range = refl; idle = refl; orphans = refl; replied = refl },
        tt,
      ),
    ),
  );
  not = λ possible. omega (arith, possible.bytes_gone);
}

pub an_exit_item_too_many_is_not : IsImpossibleAfter usual before_an_exit_item_too_many an_exit_item_too_many
unfolding machine
an_exit_item_too_many_is_not = record {
  legal = (
    record { known = lit< tt; lives = refl; in_range = refl; idle = refl; orphans = refl; replied = refl },
    (
      record { known = lit< tt; lives = refl; in_range = refl; idle = refl; orphans = refl; replied = refl },
      (
        record { known = lit< tt; lives = refl; in_range = refl; idle = refl; orphans = refl; replied = refl },
        tt,
      ),
    ),
  );
  not = λ possible. omega (arith, possible.exits_gone);
}

pub a_share_too_many_is_not : IsImpossibleAfter usual before_a_share_too_many a_share_too_many
unfolding machine
a_share_too_many_is_not = record {
  legal = (
    record { known = lit< tt; lives = refl; in_range = refl; idle = refl; orphans = refl; replied = refl },
    (
      record { known = lit< tt; lives = refl; in_range = refl; idle = refl; orphans = refl; replied = refl },
      (
        record { known = lit< tt; lives = refl; in_range = refl; idle = refl; orphans = refl; replied = refl },
        tt,
      ),
    ),
  );
  not = λ possible. omega (arith, possible.shares_gone);
}

pub absorbing_a_heap_that_is_not_there_is_not : IsImpossibleAfter usual before_absorbing_a_heap_that_is_not_there absorbing_a_heap_that_is_not_there
unfolding machine
absorbing_a_heap_that_is_not_there_is_not = record { legal = tt; not = λ possible. omega (arith, possible.known) }

pub absorbing_an_unmade_heap_is_not : IsImpossibleAfter usual before_absorbing_an_unmade_heap absorbing_an_unmade_heap
unfolding machine
absorbing_an_unmade_heap_is_not = record { legal = tt; not = λ possible. false≢true possible.orphan }

pub absorbing_a_shared_heap_in_use_is_not : IsImpossibleAfter usual before_absorbing_a_shared_heap_in_use absorbing_a_shared_heap_in_use
unfolding machine
absorbing_a_shared_heap_in_use_is_not = record {
  legal = (
    record { known = lit< tt; lives = refl; in_range = refl; idle = refl; orphans = refl; replied = refl },
    tt,
  );
  not = λ possible. false≢true possible.orphan;
}

pub absorbing_into_a_scanned_kernel_is_not : IsImpossibleAfter usual before_absorbing_into_a_scanned_kernel absorbing_into_a_scanned_kernel
unfolding machine
absorbing_into_a_scanned_kernel_is_not = record {
  legal = (
    record { known = lit< tt; lives = refl; in_range = refl; idle = refl; orphans = refl; replied = refl },
    (
      record { known = lit< tt; lives = refl; in_range = refl; idle = refl; orphans = refl; replied = refl },
      (
        record { known = lit< tt; lives = refl; in_range = refl; idle = refl; orphans = refl; replied = refl },
        (
          record { known = lit< tt; lives = refl; in_range = refl; idle = refl; orphans = refl; replied = refl },
          (
            record { known = lit< tt; lives = refl; in_range = refl; idle = refl; orphans = refl; replied = refl },
            (
              record { known = lit< tt; lives = refl; in_range = refl; idle = refl; orphans = refl; replied = refl },
              (
                record { scanned = refl; objects_gone = refl; bytes_gone = refl; exits_gone = refl; shares_gone = refl },
                tt,
              ),
            ),
          ),
        ),
      ),
    ),
  );
  not = λ possible. false≢true (sym possible.idle);
}

pub closing_before_all_have_ended_is_not : IsImpossibleAfter usual before_closing_before_all_have_ended closing_before_all_have_ended
unfolding machine
closing_before_all_have_ended_is_not = record {
  legal = (
    record { known = lit< tt; lives = refl; in_range = refl; idle = refl; orphans = refl; replied = refl },
    tt,
  );
  not = λ possible. false≢true possible.all_ended;
}

pub closing_beside_an_orphan_is_not : IsImpossibleAfter usual before_closing_beside_an_orphan closing_beside_an_orphan
unfolding machine
closing_beside_an_orphan_is_not = record {
  legal = (
    record { known = lit< tt; lives = refl; in_range = refl; idle = refl; orphans = refl; replied = refl },
    (
      record { known = lit< tt; lives = refl; in_range = refl; idle = refl; orphans = refl; replied = refl },
      (
        record { known = lit< tt; lives = refl; in_range = refl; idle = refl; orphans = refl; replied = refl },
        tt,
      ),
    ),
  );
  not = λ possible. false≢true possible.orphans;
}

pub closing_a_scanned_kernel_is_not : IsImpossibleAfter usual before_closing_a_scanned_kernel closing_a_scanned_kernel
unfolding machine
closing_a_scanned_kernel_is_not = record {
  legal = (
    record { known = lit< tt; lives = refl; in_range = refl; idle = refl; orphans = refl; replied = refl },
    (
      record { known = lit< tt; lives = refl; in_range = refl; idle = refl; orphans = refl; replied = refl },
      (
        record { all_ended = refl; orphans = refl; idle = refl; first = refl },
        tt,
      ),
    ),
  );
  not = λ possible. false≢true (sym possible.idle);
}

pub closing_twice_is_not : IsImpossibleAfter usual before_closing_twice closing_twice
unfolding machine
closing_twice_is_not = record {
  legal = (
    record { known = lit< tt; lives = refl; in_range = refl; idle = refl; orphans = refl; replied = refl },
    (
      record { known = lit< tt; lives = refl; in_range = refl; idle = refl; orphans = refl; replied = refl },
      (
        record { all_ended = refl; orphans = refl; idle = refl; first = refl },
        (
          record { scanned = refl; objects_gone = refl; bytes_gone = refl; exits_gone = refl; shares_gone = refl },
          tt,
        ),
      ),
    ),
  );
  not = λ possible. false≢true (sym possible.first);
}

pub a_kill_of_no_process_is_not : IsImpossibleAfter governed before_a_kill_of_no_process a_kill_of_no_process
unfolding machine
a_kill_of_no_process_is_not = record { legal = tt; not = λ possible. false≢true possible.in_range }

pub a_kill_while_the_target_is_scanned_is_not : IsImpossibleAfter governed before_a_kill_while_the_target_is_scanned a_kill_while_the_target_is_scanned
unfolding machine
a_kill_while_the_target_is_scanned_is_not = record { legal = (record { known = lit< tt; lives = refl; in_range = refl; idle = refl; orphans = refl; replied = refl }, tt); not = λ possible. false≢true possible.idle }

pub a_kill_while_the_kernel_is_scanned_is_not : IsImpossibleAfter governed before_a_kill_while_the_kernel_is_scanned a_kill_while_the_kernel_is_scanned
unfolding machine
a_kill_while_the_kernel_is_scanned_is_not = record { legal = (record { known = lit< tt; lives = refl; in_range = refl; idle = refl; orphans = refl; replied = refl }, tt); not = λ possible. false≢true possible.idle }

pub a_kill_from_beside_is_not : IsImpossibleAfter governed before_a_kill_from_beside a_kill_from_beside
unfolding machine
a_kill_from_beside_is_not = record { legal = tt; not = λ possible. false≢true (sym (ap is_done possible.replied)) }

pub an_operation_after_a_kill_is_not : IsImpossibleAfter governed before_an_operation_after_a_kill an_operation_after_a_kill
unfolding machine
an_operation_after_a_kill_is_not = record { legal = (record { known = lit< tt; lives = refl; in_range = refl; idle = refl; orphans = refl; replied = refl }, tt); not = λ possible. false≢true (sym possible.lives) }

pub a_resize_of_no_limit_is_not : IsImpossibleAfter governed before_a_resize_of_no_limit a_resize_of_no_limit
unfolding machine
a_resize_of_no_limit_is_not = record { legal = tt; not = λ possible. false≢true possible.in_range }

pub a_resize_beyond_all_maxima_is_not : IsImpossibleAfter governed before_a_resize_beyond_all_maxima a_resize_beyond_all_maxima
unfolding machine
a_resize_beyond_all_maxima_is_not = record { legal = tt; not = λ possible. false≢true possible.in_range }

pub a_resize_below_what_is_used_is_not : IsImpossibleAfter governed before_a_resize_below_what_is_used a_resize_below_what_is_used
unfolding machine
a_resize_below_what_is_used_is_not = record { legal = (record { known = lit< tt; lives = refl; in_range = refl; idle = refl; orphans = refl; replied = refl }, tt); not = λ possible. false≢true (sym (ap is_done possible.replied)) }

pub a_resize_beyond_what_is_left_is_not : IsImpossibleAfter governed before_a_resize_beyond_what_is_left a_resize_beyond_what_is_left
unfolding machine
a_resize_beyond_what_is_left_is_not = record { legal = tt; not = λ possible. false≢true (sym (ap is_done possible.replied)) }
