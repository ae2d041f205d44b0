-- Worked lines and reports, read.
use Rattle.std.specs.Prelude.{◌≡◌, ℕ, List, [], ◌∷◌, ◌++◌, Option, Some, None, Ok, Err, codes}
use Rattle.std.specs.List.{flat_map}
use Rattle.k_types.specs.declared.names.Reg.{Reg}
use Rattle.k_types.specs.declared.names.Name.{Name}
use Rattle.k_types.specs.declared.names.TypeId.{TypeId}
use Rattle.k_types.specs.declared.names.SharedId.{SharedId}
use Rattle.k_types.specs.declared.names.Heap.TheVariants.{Kernel, User, Shared}
use Rattle.k_types.specs.declared.op.Op.{Op}
use Rattle.k_types.specs.declared.op.Op.TheVariants.{New, KNew, SNew, Load, Move, Get, Share, Exit, Kill, Resize}
use Rattle.k_types.specs.declared.event.Fault.{Fault}
use Rattle.k_types.specs.declared.event.Fault.TheVariants.{Null, Foreign, NotSharer, NoField, WrongKind, Frozen, Segv, NotPopulating, NotFrozen, Taken, LimitFull, KernelFull, ProcNotBelow, LimitNotBelow, InUse}
use Rattle.k_types.specs.declared.event.Reply.{Reply}
use Rattle.k_types.specs.declared.event.Reply.TheVariants.{Done as DoneReply, Made, Loaded, Value, Refused}
use Rattle.k_types.specs.declared.event.Event.{Event}
use Rattle.k_types.specs.declared.event.Event.TheVariants.{Done, Ended, Absorbed, Closing}
use Rattle.k_words.specs.Words.{Text, words_of}
use Rattle.k_trace.specs.Named.{DeclaredNames}
use Rattle.k_reports.specs.Reading.{event_of}
use Rattle.k_reports.specs.Histories.{history_of}

-- Two processes, two limits, a shared heap and a type.
abbrev pub names : DeclaredNames
names = record { types = codes "Node" ∷ []; limits = codes "root" ∷ codes "a" ∷ []; procs = codes "p1" ∷ codes "p2" ∷ []; shared = codes "s" ∷ [] }

-- The event of a line.
abbrev pub read : Text → Option Event
read line = event_of names (words_of line)

-- The register of that number.
abbrev pub r : ℕ → Reg
r n = record { 0 = n }

-- The one type.
abbrev pub node : TypeId
node = record { 0 = 0 }

-- The one shared heap.
abbrev pub s : SharedId
s = record { 0 = 0 }

-- The name of the object of that segment and serial.
abbrev pub name : ℕ → ℕ → Name
name seg serial = record { seg = record { 0 = seg }; serial = record { 0 = serial } }

-- An operation of the first process and its reply.
abbrev pub of_first : Op → Reply → Option Event
of_first op reply = Some (Done (record { 0 = 0 }) op reply)

-- A load by the second process, refused.
abbrev pub refused : Fault → Option Event
refused fault = Some (Done (record { 0 = 1 }) (Load (r 0) (r 1) 2) (Refused fault))

-- A name is an object made after an operation that makes one, and one that was loaded after any other, whatever its
-- segment; a serial may be 0.
pub record NamesAreRead : Type 0 where
  pub made : read (codes "p1 new r0 Node = p1.1") ≡ of_first (New (r 0) node) (Made (name 1 1))
  pub made_by_kernel : read (codes "p1 knew r15 Node = kernel.4294967295") ≡ of_first (KNew (r 15) node) (Made (name 0 4294967295))
  pub made_in_shared : read (codes "p1 snew r0 s Node = s.0") ≡ of_first (SNew (r 0) s node) (Made (name 3 0))
  pub loaded : read (codes "p1 load r2 r0 15 = p2.7") ≡ of_first (Load (r 2) (r 0) 15) (Loaded (Some (name 2 7)))
  pub loaded_null : read (codes "p1 load r2 r0 1 = null") ≡ of_first (Load (r 2) (r 0) 1) (Loaded None)
  pub any_reply : read (codes "p1 exit = s.1") ≡ of_first Exit (Loaded (Some (name 3 1)))
  pub number : read (codes "p1 get r1 2 = 18446744073709551615") ≡ of_first (Get (r 1) 2) (Value 18446744073709551615)
  pub ok : read (codes "p1 move r1 r2 = ok") ≡ of_first (Move (r 1) (r 2)) DoneReply
  pub process : read (codes "p1 kill p2 = ok") ≡ of_first (Kill (record { 0 = 1 })) DoneReply
  pub limit : read (codes "p1 resize a 1099511627775 = ok") ≡ of_first (Resize (record { 0 = 1 }) 1099511627775) DoneReply

-- Each fault, and what it names.
pub record FaultsAreRead : Type 0 where
  pub null : read (codes "p2 load r0 r1 2 = fault Null") ≡ refused Null
  pub foreign : read (codes "p2 load r0 r1 2 = fault Foreign") ≡ refused Foreign
  pub not_sharer : read (codes "p2 load r0 r1 2 = fault NotSharer s") ≡ refused (NotSharer s)
  pub no_field : read (codes "p2 load r0 r1 2 = fault NoField") ≡ refused NoField
  pub wrong_kind : read (codes "p2 load r0 r1 2 = fault WrongKind") ≡ refused WrongKind
  pub frozen : read (codes "p2 load r0 r1 2 = fault Frozen") ≡ refused Frozen
  pub segv : read (codes "p2 load r0 r1 2 = fault Segv") ≡ refused Segv
  pub not_populating : read (codes "p2 load r0 r1 2 = fault NotPopulating s") ≡ refused (NotPopulating s)
  pub not_frozen : read (codes "p2 load r0 r1 2 = fault NotFrozen s") ≡ refused (NotFrozen s)
  pub taken : read (codes "p2 load r0 r1 2 = fault Taken s") ≡ refused (Taken s)
  pub limit_full : read (codes "p2 load r0 r1 2 = fault LimitFull a") ≡ refused (LimitFull (record { 0 = 1 }))
  pub kernel_full : read (codes "p2 load r0 r1 2 = fault KernelFull") ≡ refused KernelFull
  pub proc_not_below : read (codes "p2 load r0 r1 2 = fault ProcNotBelow p1") ≡ refused (ProcNotBelow (record { 0 = 0 }))
  pub limit_not_below : read (codes "p2 load r0 r1 2 = fault LimitNotBelow root") ≡ refused (LimitNotBelow (record { 0 = 0 }))
  pub in_use : read (codes "p2 load r0 r1 2 = fault InUse a") ≡ refused (InUse (record { 0 = 1 }))

-- The events that are no operation. A collection's end takes the name of any heap.
pub record OtherEventsAreRead : Type 0 where
  pub of_kernel : read (codes "ended kernel 2 80 0 0") ≡ Some (Ended Kernel 2 80 0 0)
  pub of_process : read (codes "ended p2 0 0 0 1") ≡ Some (Ended (User (record { 0 = 1 })) 0 0 0 1)
  pub of_shared : read (codes "ended s 4294967295 18446744073709551615 1 0") ≡ Some (Ended (Shared s) 4294967295 18446744073709551615 1 0)
  pub absorbed : read (codes "absorbed s") ≡ Some (Absorbed s)
  pub closing : read (codes "closing") ≡ Some Closing

-- Lines that are no event's.
pub record OtherLinesAreNone : Type 0 where
  pub no_reply : read (codes "p1 exit") ≡ None
  pub empty_reply : read (codes "p1 exit =") ≡ None
  pub two_replies : read (codes "p1 exit = ok ok") ≡ None
  pub two_equals : read (codes "p1 exit = = ok") ≡ None
  pub no_process : read (codes "s exit = ok") ≡ None
  pub no_operation : read (codes "p1 = ok") ≡ None
  pub great_serial : read (codes "p1 new r0 Node = p1.4294967296") ≡ None
  pub two_serials : read (codes "p1 new r0 Node = p1.1.1") ≡ None
  pub no_serial : read (codes "p1 new r0 Node = p1.") ≡ None
  pub no_segment : read (codes "p1 new r0 Node = a.1") ≡ None
  pub great_number : read (codes "p1 get r1 2 = 18446744073709551616") ≡ None
  pub great_maximum : read (codes "p1 resize a 1099511627776 = ok") ≡ None
  pub no_such_limit : read (codes "p1 resize p2 0 = ok") ≡ None
  pub no_such_process : read (codes "p1 kill s = ok") ≡ None
  pub no_fault : read (codes "p1 exit = fault") ≡ None
  pub no_such_fault : read (codes "p1 exit = fault Busy") ≡ None
  pub fault_without_name : read (codes "p1 exit = fault Taken") ≡ None
  pub fault_with_name : read (codes "p1 exit = fault Null s") ≡ None
  pub great_count : read (codes "ended p1 4294967296 0 0 0") ≡ None
  pub no_heap : read (codes "ended a 0 0 0 0") ≡ None
  pub not_a_shared_heap : read (codes "absorbed p1") ≡ None
  pub two_words : read (codes "closing closing") ≡ None
  pub nothing : read [] ≡ None
  pub two_spaces : read (codes "p1  exit = ok") ≡ None

-- The text of these lines, each ended by a line feed.
abbrev pub of_lines : List Text → Text
of_lines lines = flat_map (λ line. line ++ 10 ∷ []) lines

-- Reports, and what is read of them.
pub record HistoriesAreRead : Type 0 where
  pub events : history_of names (of_lines (codes "report 1" ∷ codes "p1 share s = ok" ∷ codes "absorbed s" ∷ codes "graph" ∷ codes "foo" ∷ []))
      ≡ Ok (Done (record { 0 = 0 }) (Share s) DoneReply ∷ Absorbed s ∷ [])
  pub none : history_of names (codes "report 1" ++ 10 ∷ codes "graph") ≡ Ok []
  pub first_line : history_of names (of_lines (codes "report 2" ∷ codes "foo" ∷ codes "graph" ∷ [])) ≡ Err 1
  pub empty : history_of names [] ≡ Err 1
  pub bad_line : history_of names (of_lines (codes "report 1" ∷ codes "closing" ∷ codes "foo" ∷ codes "bar" ∷ [])) ≡ Err 3
  pub no_graph : history_of names (of_lines (codes "report 1" ∷ codes "closing" ∷ codes "closing" ∷ [])) ≡ Err 4
  pub first_line_alone : history_of names (codes "report 1") ≡ Err 2
  pub last_line_without_feed : history_of names (codes "report 1" ++ 10 ∷ codes "closing") ≡ Err 3
  pub empty_line : history_of names (of_lines (codes "report 1" ∷ [] ∷ codes "graph" ∷ [])) ≡ Err 2
