-- Histories after which an event is not possible, one for each test that a step makes.
use Rattle.std.specs.Prelude.{List, [], ◌∷◌}
use Rattle.k_types.specs.declared.names.Heap.TheVariants.{Kernel}
use Rattle.k_types.specs.declared.op.Op.TheVariants.{New, KNew, SNew, Move, Clear, Put, Get, Collect, KCollect, Share, Freeze, Exit, Kill, Resize}
use Rattle.k_types.specs.declared.event.Fault.TheVariants.{KernelFull}
use Rattle.k_types.specs.declared.event.Reply.TheVariants.{Done as Fine, Made, Value, Refused}
use Rattle.k_types.specs.declared.event.Event.{Event}
use Rattle.k_types.specs.declared.event.Event.TheVariants.{Ended, Absorbed, Closing}
use Rattle.k_types.specs.Owners.{user}
use Rattle.k_rows.specs.Words.{name, reg, node, s, t, did}

-- The process must be one of the trace. Before the event:
abbrev pub before_an_operation_of_no_process : List Event
before_an_operation_of_no_process =
    []

-- the event
abbrev pub an_operation_of_no_process : Event
an_operation_of_no_process = did 2 (Clear (reg 0)) Fine

-- A process that has ended does nothing more. Before the event:
abbrev pub before_an_operation_after_an_exit : List Event
before_an_operation_after_an_exit =
    did 0 Exit Fine
    ∷ []

-- the event
abbrev pub an_operation_after_an_exit : Event
an_operation_after_an_exit = did 0 (Clear (reg 0)) Fine

-- A register is one of sixteen. Before the event:
abbrev pub before_a_register_that_is_not_there : List Event
before_a_register_that_is_not_there =
    []

-- the event
abbrev pub a_register_that_is_not_there : Event
a_register_that_is_not_there = did 0 (Clear (reg 16)) Fine

-- A type is one of the trace. Before the event:
abbrev pub before_a_type_that_is_not_there : List Event
before_a_type_that_is_not_there =
    []

-- the event
abbrev pub a_type_that_is_not_there : Event
a_type_that_is_not_there = did 0 (New (reg 0) (record { 0 = 1 })) (Made (name 1 1))

-- A shared heap is one of the trace. Before the event:
abbrev pub before_a_shared_heap_that_is_not_there : List Event
before_a_shared_heap_that_is_not_there =
    []

-- the event
abbrev pub a_shared_heap_that_is_not_there : Event
a_shared_heap_that_is_not_there = did 0 (Share t) Fine

-- While its heap is scanned a process does nothing. Before the event:
abbrev pub before_a_move_on_a_scanned_heap : List Event
before_a_move_on_a_scanned_heap =
    did 0 (New (reg 0) node) (Made (name 1 1))
    ∷ did 0 Collect Fine
    ∷ []

-- the event
abbrev pub a_move_on_a_scanned_heap : Event
a_move_on_a_scanned_heap = did 0 (Move (reg 1) (reg 0)) Fine

-- A put waits for the end of the collection too. Before the event:
abbrev pub before_a_put_on_a_scanned_heap : List Event
before_a_put_on_a_scanned_heap =
    did 0 (New (reg 0) node) (Made (name 1 1))
    ∷ did 0 Collect Fine
    ∷ []

-- the event
abbrev pub a_put_on_a_scanned_heap : Event
a_put_on_a_scanned_heap = did 0 (Put (reg 0) 2 7) Fine

-- A get waits for the end of the collection too. Before the event:
abbrev pub before_a_get_on_a_scanned_heap : List Event
before_a_get_on_a_scanned_heap =
    did 0 (New (reg 0) node) (Made (name 1 1))
    ∷ did 0 Collect Fine
    ∷ []

-- the event
abbrev pub a_get_on_a_scanned_heap : Event
a_get_on_a_scanned_heap = did 0 (Get (reg 0) 2) (Value 0)

-- While the kernel is scanned nothing is made there. Before the event:
abbrev pub before_an_allocation_in_a_scanned_kernel : List Event
before_an_allocation_in_a_scanned_kernel =
    did 1 KCollect Fine
    ∷ []

-- the event
abbrev pub an_allocation_in_a_scanned_kernel : Event
an_allocation_in_a_scanned_kernel = did 0 (KNew (reg 0) node) (Made (name 0 2))

-- While the kernel is scanned its objects are not written. Before the event:
abbrev pub before_a_put_into_a_scanned_kernel : List Event
before_a_put_into_a_scanned_kernel =
    did 0 (KNew (reg 0) node) (Made (name 0 2))
    ∷ did 1 KCollect Fine
    ∷ []

-- the event
abbrev pub a_put_into_a_scanned_kernel : Event
a_put_into_a_scanned_kernel = did 0 (Put (reg 0) 2 7) Fine

-- A heap is collected once at a time. Before the event:
abbrev pub before_a_second_collection_of_a_heap : List Event
before_a_second_collection_of_a_heap =
    did 0 KCollect Fine
    ∷ []

-- the event
abbrev pub a_second_collection_of_a_heap : Event
a_second_collection_of_a_heap = did 1 KCollect Fine

-- The kernel is not collected beside an orphan. Before the event:
abbrev pub before_a_kernel_collection_beside_an_orphan : List Event
before_a_kernel_collection_beside_an_orphan =
    did 0 (Share s) Fine
    ∷ did 0 Exit Fine
    ∷ []

-- the event
abbrev pub a_kernel_collection_beside_an_orphan : Event
a_kernel_collection_beside_an_orphan = did 1 KCollect Fine

-- The reply to an allocation is the next name. Before the event:
abbrev pub before_a_wrong_name : List Event
before_a_wrong_name =
    []

-- the event
abbrev pub a_wrong_name : Event
a_wrong_name = did 0 (New (reg 0) node) (Made (name 1 2))

-- A reply is a fault only where one applies. Before the event:
abbrev pub before_a_fault_that_is_not_there : List Event
before_a_fault_that_is_not_there =
    []

-- the event
abbrev pub a_fault_that_is_not_there : Event
a_fault_that_is_not_there = did 0 (New (reg 0) node) (Refused KernelFull)

-- A reply is a fault where one applies. Before the event:
abbrev pub before_a_fault_that_is_missed : List Event
before_a_fault_that_is_missed =
    []

-- the event
abbrev pub a_fault_that_is_missed : Event
a_fault_that_is_missed = did 0 (Put (reg 0) 2 7) Fine

-- A collection ends only where one is open. Before the event:
abbrev pub before_an_end_without_a_collection : List Event
before_an_end_without_a_collection =
    []

-- the event
abbrev pub an_end_without_a_collection : Event
an_end_without_a_collection = Ended (user 0) 0 0 0 0

-- The first number of an end is that of the freed objects. Before the event:
abbrev pub before_one_object_too_many : List Event
before_one_object_too_many =
    did 0 (New (reg 0) node) (Made (name 1 1))
    ∷ did 0 (Clear (reg 0)) Fine
    ∷ did 0 Collect Fine
    ∷ []

-- the event
abbrev pub one_object_too_many : Event
one_object_too_many = Ended (user 0) 2 40 0 0

-- The second number of an end is that of the freed bytes. Before the event:
abbrev pub before_one_byte_too_few : List Event
before_one_byte_too_few =
    did 0 (New (reg 0) node) (Made (name 1 1))
    ∷ did 0 (Clear (reg 0)) Fine
    ∷ did 0 Collect Fine
    ∷ []

-- the event
abbrev pub one_byte_too_few : Event
one_byte_too_few = Ended (user 0) 1 39 0 0

-- The third number of an end is that of the dropped exit items. Before the event:
abbrev pub before_an_exit_item_too_many : List Event
before_an_exit_item_too_many =
    did 0 (New (reg 0) node) (Made (name 1 1))
    ∷ did 0 (Clear (reg 0)) Fine
    ∷ did 0 Collect Fine
    ∷ []

-- the event
abbrev pub an_exit_item_too_many : Event
an_exit_item_too_many = Ended (user 0) 1 40 1 0

-- The fourth number of an end is that of the dropped shares. Before the event:
abbrev pub before_a_share_too_many : List Event
before_a_share_too_many =
    did 0 (New (reg 0) node) (Made (name 1 1))
    ∷ did 0 (Clear (reg 0)) Fine
    ∷ did 0 Collect Fine
    ∷ []

-- the event
abbrev pub a_share_too_many : Event
a_share_too_many = Ended (user 0) 1 40 0 1

-- What is absorbed is a shared heap of the trace. Before the event:
abbrev pub before_absorbing_a_heap_that_is_not_there : List Event
before_absorbing_a_heap_that_is_not_there =
    []

-- the event
abbrev pub absorbing_a_heap_that_is_not_there : Event
absorbing_a_heap_that_is_not_there = Absorbed t

-- An unmade heap is no orphan. Before the event:
abbrev pub before_absorbing_an_unmade_heap : List Event
before_absorbing_an_unmade_heap =
    []

-- the event
abbrev pub absorbing_an_unmade_heap : Event
absorbing_an_unmade_heap = Absorbed s

-- A heap with a sharer is no orphan. Before the event:
abbrev pub before_absorbing_a_shared_heap_in_use : List Event
before_absorbing_a_shared_heap_in_use =
    did 0 (Share s) Fine
    ∷ []

-- the event
abbrev pub absorbing_a_shared_heap_in_use : Event
absorbing_a_shared_heap_in_use = Absorbed s

-- Nothing is absorbed while the kernel is scanned. Before the event:
abbrev pub before_absorbing_into_a_scanned_kernel : List Event
before_absorbing_into_a_scanned_kernel =
    did 0 (Share s) Fine
    ∷ did 0 (SNew (reg 0) s node) (Made (name 3 1))
    ∷ did 0 (Freeze s (reg 0)) Fine
    ∷ did 0 (Clear (reg 0)) Fine
    ∷ did 0 Collect Fine
    ∷ did 1 KCollect Fine
    ∷ Ended (user 0) 0 0 0 1
    ∷ []

-- the event
abbrev pub absorbing_into_a_scanned_kernel : Event
absorbing_into_a_scanned_kernel = Absorbed s

-- The last collection waits for all processes. Before the event:
abbrev pub before_closing_before_all_have_ended : List Event
before_closing_before_all_have_ended =
    did 0 Exit Fine
    ∷ []

-- the event
abbrev pub closing_before_all_have_ended : Event
closing_before_all_have_ended = Closing

-- The last collection waits for orphans. Before the event:
abbrev pub before_closing_beside_an_orphan : List Event
before_closing_beside_an_orphan =
    did 0 (Share s) Fine
    ∷ did 0 Exit Fine
    ∷ did 1 Exit Fine
    ∷ []

-- the event
abbrev pub closing_beside_an_orphan : Event
closing_beside_an_orphan = Closing

-- The last collection does not begin while the kernel is scanned. Before the event:
abbrev pub before_closing_a_scanned_kernel : List Event
before_closing_a_scanned_kernel =
    did 0 Exit Fine
    ∷ did 1 Exit Fine
    ∷ Closing
    ∷ []

-- the event
abbrev pub closing_a_scanned_kernel : Event
closing_a_scanned_kernel = Closing

-- There is one last collection. Before the event:
abbrev pub before_closing_twice : List Event
before_closing_twice =
    did 0 Exit Fine
    ∷ did 1 Exit Fine
    ∷ Closing
    ∷ Ended Kernel 0 0 0 0
    ∷ []

-- the event
abbrev pub closing_twice : Event
closing_twice = Closing

-- A process that is ended is one of the trace. Before the event:
abbrev pub before_a_kill_of_no_process : List Event
before_a_kill_of_no_process =
    []

-- the event
abbrev pub a_kill_of_no_process : Event
a_kill_of_no_process = did 0 (Kill (record { 0 = 3 })) Fine

-- While its heap is scanned nobody ends a process. Before the event:
abbrev pub before_a_kill_while_the_target_is_scanned : List Event
before_a_kill_while_the_target_is_scanned =
    did 1 Collect Fine
    ∷ []

-- the event
abbrev pub a_kill_while_the_target_is_scanned : Event
a_kill_while_the_target_is_scanned = did 0 (Kill (record { 0 = 1 })) Fine

-- While the kernel is scanned no process ends another. Before the event:
abbrev pub before_a_kill_while_the_kernel_is_scanned : List Event
before_a_kill_while_the_kernel_is_scanned =
    did 2 KCollect Fine
    ∷ []

-- the event
abbrev pub a_kill_while_the_kernel_is_scanned : Event
a_kill_while_the_kernel_is_scanned = did 0 (Kill (record { 0 = 1 })) Fine

-- Only a process whose limit is above another's ends it. Before the event:
abbrev pub before_a_kill_from_beside : List Event
before_a_kill_from_beside =
    []

-- the event
abbrev pub a_kill_from_beside : Event
a_kill_from_beside = did 2 (Kill (record { 0 = 1 })) Fine

-- A process that another has ended does nothing more. Before the event:
abbrev pub before_an_operation_after_a_kill : List Event
before_an_operation_after_a_kill =
    did 0 (Kill (record { 0 = 1 })) Fine
    ∷ []

-- the event
abbrev pub an_operation_after_a_kill : Event
an_operation_after_a_kill = did 1 (Clear (reg 0)) Fine

-- A limit that is resized is one of the trace. Before the event:
abbrev pub before_a_resize_of_no_limit : List Event
before_a_resize_of_no_limit =
    []

-- the event
abbrev pub a_resize_of_no_limit : Event
a_resize_of_no_limit = did 0 (Resize (record { 0 = 3 }) 5) Fine

-- A maximum that is set is below 2^40, also that of a soft limit, which reserves nothing. Before the event:
abbrev pub before_a_resize_beyond_all_maxima : List Event
before_a_resize_beyond_all_maxima =
    []

-- the event
abbrev pub a_resize_beyond_all_maxima : Event
a_resize_beyond_all_maxima = did 0 (Resize (record { 0 = 2 }) 1099511627776) Fine

-- No maximum is set below what is used. Before the event:
abbrev pub before_a_resize_below_what_is_used : List Event
before_a_resize_below_what_is_used =
    did 2 (New (reg 0) node) (Made (name 3 1))
    ∷ []

-- the event
abbrev pub a_resize_below_what_is_used : Event
a_resize_below_what_is_used = did 0 (Resize (record { 0 = 2 }) 39) Fine

-- A hard limit gets no more than its parent has left. Before the event:
abbrev pub before_a_resize_beyond_what_is_left : List Event
before_a_resize_beyond_what_is_left =
    []

-- the event
abbrev pub a_resize_beyond_what_is_left : Event
a_resize_beyond_what_is_left = did 0 (Resize (record { 0 = 1 }) 1001) Fine
