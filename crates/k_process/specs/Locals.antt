-- What a process does inside its own heap, as functions of its cell's value.
use Rattle.std.specs.Prelude.{◌≡◌, ℕ, ◌+◌, ◌==◌, ◌<◌, ◌&&◌, ◌++◌, ◌∷◌, [], not, nat_le, Bool, true, false, IsFalse, Option, Some, None, if◌then◌else◌}
use Rattle.k_types.specs.declared.event.Event.TheVariants.{Done as DoneEvent}
use Rattle.k_types.specs.declared.event.Fault.TheVariants.{Null, NoField, WrongKind}
use Rattle.k_types.specs.declared.event.Reply.{Reply}
use Rattle.k_types.specs.declared.event.Reply.TheVariants.{Done, Loaded, Value, Refused}
use Rattle.k_types.specs.declared.names.Name.{Name}
use Rattle.k_types.specs.declared.names.Pid.{Pid}
use Rattle.k_types.specs.declared.op.Op.{Op}
use Rattle.k_types.specs.declared.op.Op.TheVariants.{New, KNew, SNew, Store, Load, Move, Clear, Dir, Put, Get, Collect, KCollect, Share, Freeze, Attach, Exit, Kill, Resize}
use Rattle.k_types.specs.Agree.{CellValue}
use Rattle.k_types.specs.Cells.{BookPart, Cell, CellPart, book_part, part}
use Rattle.k_types.specs.Effects.{step}
use Rattle.k_types.specs.Local.{is_own}
use Rattle.k_types.specs.Names.{among}
use Rattle.k_types.specs.Owners.{user}
use Rattle.k_types.specs.Replies.{is_ref, number_in, reference}
use Rattle.k_types.specs.State.{Content, Holds, Refers, State}
use Rattle.k_types.specs.Trace.{Trace, process_count}
use Rattle.k_laws.specs.PartUpdates.{held_in}
use Rattle.k_laws.specs.BookChanges.{owner_in}
use Rattle.k_agree.specs.GivingAway.{with_one_done}
use Rattle.k_agree.specs.Marking.{idle_part}
use Rattle.k_laws.specs.Answers.{reply_in}
use Rattle.k_laws.specs.CellAfter.{cell_after, unless_refused}
use Rattle.k_commit.specs.k_heap.Changes.{with_field}
use Rattle.k_commit.specs.k_heap.Looks.{field_among, field_count_among}
use Rattle.k_commit.specs.k_heap.Heaps.{HeapRecord, with_register_in}

-- the answer to an access to the field of the object, by whether it is of the wanted kind and what is answered if it is; none
-- where the object is not the process's own
abbrev pub field_answer : CellValue → ℕ → Name → ℕ → Bool → Option Reply → Option Reply
field_answer v p x i of_kind answer =
    if x.seg.0 == p + 1 then (if nat_le (field_count_among v.objects x) i then Some (Refused NoField) else (if of_kind then answer else Some (Refused WrongKind))) else None

-- the answer to an access to a field that holds that, if it is there and a reference, by what is answered then
abbrev pub ref_answer : Option Content → Option Reply → Option Reply
ref_answer None answer = Some (Refused NoField)
ref_answer (Some held) answer = if is_ref held then answer else Some (Refused WrongKind)

-- the same of an integer
abbrev pub int_answer : Option Content → Option Reply → Option Reply
int_answer None answer = Some (Refused NoField)
int_answer (Some held) answer = if not (is_ref held) then answer else Some (Refused WrongKind)

-- the number that a field holds which may be there
abbrev pub number_found : Option Content → ℕ
number_found None = 0
number_found (Some held) = number_in held

-- the answer to a store of the value through what the base register holds
abbrev pub store_answer : CellValue → ℕ → Option Name → ℕ → Option Name → Option Reply
store_answer v p None i value = Some (Refused Null)
store_answer v p (Some x) i value = field_answer v p x i (is_ref (field_among v.objects x i)) (if is_own p value then Some Done else None)

-- the answer to a load, where the result register held that
abbrev pub load_answer : CellValue → ℕ → Option Name → ℕ → Option Name → Option Reply
load_answer v p None i old = Some (Refused Null)
load_answer v p (Some x) i old =
    field_answer v p x i (is_ref (field_among v.objects x i)) (if is_own p (reference (field_among v.objects x i)) && is_own p old then Some (Loaded (reference (field_among v.objects x i))) else None)

-- the answer to a put
abbrev pub put_answer : CellValue → ℕ → Option Name → ℕ → Option Reply
put_answer v p None i = Some (Refused Null)
put_answer v p (Some x) i = field_answer v p x i (not (is_ref (field_among v.objects x i))) (Some Done)

-- the answer to a get
abbrev pub get_answer : CellValue → ℕ → Option Name → ℕ → Option Reply
get_answer v p None i = Some (Refused Null)
get_answer v p (Some x) i = field_answer v p x i (not (is_ref (field_among v.objects x i))) (Some (Value (number_in (field_among v.objects x i))))

-- what the operation of the process is answered, where it is done inside its heap; none where it is not
unfoldable pub local_answer : CellValue → ℕ → Op → Option Reply
local_answer v p (New r ty) = None
local_answer v p (KNew r ty) = None
local_answer v p (SNew r s ty) = None
local_answer v p (Store base i value) = store_answer v p (held_in v.process base.0) i (held_in v.process value.0)
local_answer v p (Load r base i) = load_answer v p (held_in v.process base.0) i (held_in v.process r.0)
local_answer v p (Move r from) = if is_own p (held_in v.process r.0) && is_own p (held_in v.process from.0) then Some Done else None
local_answer v p (Clear r) = if is_own p (held_in v.process r.0) then Some Done else None
local_answer v p (Dir r) = None
local_answer v p (Put base i number) = put_answer v p (held_in v.process base.0) i
local_answer v p (Get base i) = get_answer v p (held_in v.process base.0) i
local_answer v p Collect = None
local_answer v p KCollect = None
local_answer v p (Share s) = None
local_answer v p (Freeze s root) = None
local_answer v p (Attach r s) = None
local_answer v p Exit = None
local_answer v p (Kill q) = None
local_answer v p (Resize m max) = None

-- the field of the object that the register holds, if it holds one, holds the content
abbrev pub written_through : Option Name → ℕ → Content → CellValue → CellValue
written_through None i content v = v
written_through (Some x) i content v = with_field x i content v

-- the reference in the field of the object that the register holds
abbrev pub loaded_through : CellValue → Option Name → ℕ → Option Name
loaded_through v None i = None
loaded_through v (Some x) i = reference (field_among v.objects x i)

-- what a local operation changes in the cell where it is not refused
unfoldable pub local_change : CellValue → Op → CellValue
local_change v (New r ty) = v
local_change v (KNew r ty) = v
local_change v (SNew r s ty) = v
local_change v (Store base i value) = written_through (held_in v.process base.0) i (Refers (held_in v.process value.0)) v
local_change v (Load r base i) = with_register_in r.0 (loaded_through v (held_in v.process base.0) i) v
local_change v (Move r from) = with_register_in r.0 (held_in v.process from.0) v
local_change v (Clear r) = with_register_in r.0 None v
local_change v (Dir r) = v
local_change v (Put base i number) = written_through (held_in v.process base.0) i (Holds number) v
local_change v (Get base i) = v
local_change v Collect = v
local_change v KCollect = v
local_change v (Share s) = v
local_change v (Freeze s root) = v
local_change v (Attach r s) = v
local_change v Exit = v
local_change v (Kill q) = v
local_change v (Resize m max) = v

-- the cell after a local operation with that reply: it counts as done, has its effect unless it is refused, and its event is the
-- newest that the journal lacks
abbrev pub after_local : Pid → Op → Reply → CellValue → CellValue
after_local pid op said v = record (with_one_done (unless_refused said (local_change v op) v)) { tail = v.tail ++ DoneEvent pid op said ∷ [] }

-- the reply is a fault
abbrev pub is_refusal : Reply → Bool
is_refusal (Refused fault) = true
is_refusal _ = false

-- the cell has that value in place of its own, unless the reply is a fault
abbrev pub IsChanged : HeapRecord → HeapRecord → Reply → CellValue → Type 0
IsChanged old new said changed = new ≡ record old { value = unless_refused said changed old.value }

-- the registers that a local operation names are there
abbrev pub HasRegisters : Op → Type 0
HasRegisters (New r ty) = r.0 < 16
HasRegisters (KNew r ty) = r.0 < 16
HasRegisters (SNew r s ty) = r.0 < 16
HasRegisters (Store base i value) = (base.0 < 16) × (value.0 < 16)
HasRegisters (Load r base i) = (r.0 < 16) × (base.0 < 16)
HasRegisters (Move r from) = (r.0 < 16) × (from.0 < 16)
HasRegisters (Clear r) = r.0 < 16
HasRegisters (Dir r) = r.0 < 16
HasRegisters (Put base i number) = base.0 < 16
HasRegisters (Get base i) = base.0 < 16
HasRegisters Collect = Unit {0}
HasRegisters KCollect = Unit {0}
HasRegisters (Share s) = Unit {0}
HasRegisters (Freeze s root) = root.0 < 16
HasRegisters (Attach r s) = r.0 < 16
HasRegisters Exit = Unit {0}
HasRegisters (Kill q) = Unit {0}
HasRegisters (Resize m max) = Unit {0}

-- the parts of all cells and of the book are such that the process's cell has the value, and its heap owns its segment
pub record ShowOwn (trace : Trace) (book : BookPart) (parts : Cell → CellPart) (pid : Pid) (v : CellValue) : Type 0 where
  pub part : parts (user pid.0) ≡ idle_part v
  pub owner : owner_in trace book (pid.0 + 1) ≡ user pid.0

-- the operation with the reply is the machine's, by the parts: the reply is what they give, and the cell has the part after it
pub record IsMachines (trace : Trace) (book : BookPart) (parts : Cell → CellPart) (pid : Pid) (v w : CellValue) (op : Op) (said : Reply) : Type 0 where
  pub replied : said ≡ reply_in trace book parts pid.0 op
  pub after : idle_part w ≡ cell_after trace book parts (DoneEvent pid op said) (user pid.0)

-- in each state in which the process lives and its cell shows that value, the operation leaves the book's part as it was
abbrev pub LeavesTheBook : Pid → CellValue → Op → Reply → Type 0
LeavesTheBook pid v op said =
    (trace : Trace) (st : State) → pid.0 < process_count trace → IsFalse (among pid.0 st.ended) → part trace st (user pid.0) ≡ idle_part v →
    book_part trace (step trace st (DoneEvent pid op said)) ≡ book_part trace st
