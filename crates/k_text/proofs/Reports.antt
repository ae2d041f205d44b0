-- The worked reports, computed.
use Rattle.std.proofs.Common.{◌≡◌, refl}
use Rattle.k_text.specs.Worked.{file_order_report, first_run, first_report, no_operations, no_operations_report, barrier, barrier_report, every_sharer_pays, every_sharer_pays_report, object_of_a_dead_process, object_of_a_dead_process_report, orphaned_and_absorbed, orphaned_and_absorbed_report}
use Rattle.k_text.specs.WorkedHeaps.{ceiling, ceiling_report, order_of_faults, order_of_faults_report, phases_of_a_shared_heap, phases_of_a_shared_heap_report, heap_that_is_not_shared, heap_that_is_not_shared_report, exits_of_each_kind, exits_of_each_kind_report, all_processes_end, all_processes_end_report}
use Rattle.k_text.specs.WorkedGoverning.{a_process_ends_another, a_process_ends_another_report, maxima_change, maxima_change_report, the_root_keeps_its_maximum, the_root_keeps_its_maximum_report}
use Rattle.k_text.proofs.Machine.{machine}

pub first_run_is : file_order_report first_run ≡ first_report
unfolding machine
first_run_is = refl

pub no_operations_is : file_order_report no_operations ≡ no_operations_report
unfolding machine
no_operations_is = refl

pub barrier_is : file_order_report barrier ≡ barrier_report
unfolding machine
barrier_is = refl

pub every_sharer_pays_is : file_order_report every_sharer_pays ≡ every_sharer_pays_report
unfolding machine
every_sharer_pays_is = refl

pub object_of_a_dead_process_is : file_order_report object_of_a_dead_process ≡ object_of_a_dead_process_report
unfolding machine
object_of_a_dead_process_is = refl

pub orphaned_and_absorbed_is : file_order_report orphaned_and_absorbed ≡ orphaned_and_absorbed_report
unfolding machine
orphaned_and_absorbed_is = refl

pub ceiling_is : file_order_report ceiling ≡ ceiling_report
unfolding machine
ceiling_is = refl

pub order_of_faults_is : file_order_report order_of_faults ≡ order_of_faults_report
unfolding machine
order_of_faults_is = refl

pub phases_of_a_shared_heap_is : file_order_report phases_of_a_shared_heap ≡ phases_of_a_shared_heap_report
unfolding machine
phases_of_a_shared_heap_is = refl

pub heap_that_is_not_shared_is : file_order_report heap_that_is_not_shared ≡ heap_that_is_not_shared_report
unfolding machine
heap_that_is_not_shared_is = refl

pub exits_of_each_kind_is : file_order_report exits_of_each_kind ≡ exits_of_each_kind_report
unfolding machine
exits_of_each_kind_is = refl

pub all_processes_end_is : file_order_report all_processes_end ≡ all_processes_end_report
unfolding machine
all_processes_end_is = refl

pub a_process_ends_another_is : file_order_report a_process_ends_another ≡ a_process_ends_another_report
unfolding machine
a_process_ends_another_is = refl

pub maxima_change_is : file_order_report maxima_change ≡ maxima_change_report
unfolding machine
maxima_change_is = refl

pub the_root_keeps_its_maximum_is : file_order_report the_root_keeps_its_maximum ≡ the_root_keeps_its_maximum_report
unfolding machine
the_root_keeps_its_maximum_is = refl
