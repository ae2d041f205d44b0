-- What an operation asks of a setup: cells and book that stand, and room in the tables to which it may add.
use Rattle.std.specs.Prelude.{◌≡◌, ◌<◌, ℕ, List, ◌∷◌, IsTrue, Some, None, length, slice_index_or}
use Rattle.k_types.specs.declared.names.TypeId.{TypeId}
use Rattle.k_types.specs.declared.op.Op.{Op}
use Rattle.k_types.specs.declared.op.Op.TheVariants.{New, KNew, SNew, Store, Load, Move, Clear, Dir, Put, Get, Collect, KCollect, Share, Freeze, Attach, Exit, Kill, Resize}
use Rattle.k_types.specs.Steps.{in_range}
use Rattle.k_types.specs.Trace.{Trace}
use Rattle.k_space.specs.Objects.{BodyValue, new_body}
use Rattle.k_book.specs.k_agree.Meeting.{Fits}
use Rattle.k_book.specs.Books.{BookRecord}
use Rattle.k_heap.specs.Holdings.{HasObjectRoom, HoldingsValue}
use Rattle.k_heap.specs.Heaps.{HeapRecord, holdings_of as heap_holdings, own_segment}
use Rattle.k_shared.specs.SharedHeaps.{SharedRecord}
use Rattle.k_commit.specs.Others.{OtherValue, of_kernel, of_shared}
use Rattle.k_commit.specs.Standing.{BookStands, HeapStands, OtherStands}

-- the journal has room for one event more
abbrev pub HasEventRoom : BookRecord → Type 0
HasEventRoom book = length book.journal.list < book.event_room

-- the heap has room for one exit item more, and the book for one entry item
pub record HasExitRoom (heap : HoldingsValue) (book : BookRecord) : Type 0 where
  pub exits : length heap.value.exits < heap.exit_room
  pub entries : length book.value.entries < book.entry_room

-- the first of the bodies is a new one of the type
pub record HasBody (trace : Trace) (ty : TypeId) (bodies : List BodyValue) : Type 0 where
  pub rest : List BodyValue
  pub first : bodies ≡ new_body trace.types ty ∷ rest

-- there is a body for a new object, and room in the segment if it is the heap's
pub record HasRoomForNew (trace : Trace) (ty : TypeId) (bodies : List BodyValue) (heap : HoldingsValue) (seg : ℕ) : Type 0 where
  pub body : HasBody trace ty bodies
  pub serial : (given : ℕ) → slice_index_or heap.value.made seg None ≡ Some given → HasObjectRoom heap seg

-- the tables have room for what the operation may add to the heap and its segment: a new object, or an exit item
abbrev pub HasTableRoom : Trace → List BodyValue → HoldingsValue → ℕ → BookRecord → Op → Type 0
HasTableRoom trace bodies heap seg book (New r ty) = HasRoomForNew trace ty bodies heap seg
HasTableRoom trace bodies heap seg book (KNew r ty) = HasRoomForNew trace ty bodies heap seg
HasTableRoom trace bodies heap seg book (SNew r s ty) = HasRoomForNew trace ty bodies heap seg
HasTableRoom trace bodies heap seg book (Store base i value) = HasExitRoom heap book
HasTableRoom trace bodies heap seg book (Load r base i) = Unit {0}
HasTableRoom trace bodies heap seg book (Move r from) = Unit {0}
HasTableRoom trace bodies heap seg book (Clear r) = Unit {0}
HasTableRoom trace bodies heap seg book (Dir r) = Unit {0}
HasTableRoom trace bodies heap seg book (Put base i number) = Unit {0}
HasTableRoom trace bodies heap seg book (Get base i) = Unit {0}
HasTableRoom trace bodies heap seg book Collect = Unit {0}
HasTableRoom trace bodies heap seg book KCollect = Unit {0}
HasTableRoom trace bodies heap seg book (Share s) = Unit {0}
HasTableRoom trace bodies heap seg book (Freeze s root) = Unit {0}
HasTableRoom trace bodies heap seg book (Attach r s) = Unit {0}
HasTableRoom trace bodies heap seg book Exit = Unit {0}
HasTableRoom trace bodies heap seg book (Kill q) = Unit {0}
HasTableRoom trace bodies heap seg book (Resize m max) = Unit {0}

-- there is room for the event of the operation, and for what it may add to the heap
pub record HasRoomFor (trace : Trace) (bodies : List BodyValue) (heap : HoldingsValue) (seg : ℕ) (book : BookRecord) (op : Op) : Type 0 where
  pub events : HasEventRoom book
  pub tables : HasTableRoom trace bodies heap seg book op

-- cell and book stand, the operation names what the trace declares, and once the note fits the journal there is room in the process's heap
pub record CanOperate (trace : Trace) (cell : HeapRecord) (book : BookRecord) (op : Op) : Type 0 where
  pub book_stands : BookStands trace book
  pub heap_stands : HeapStands trace cell book
  pub in_range : IsTrue (in_range trace op)
  pub room : Fits book.journal cell.note → HasRoomFor trace cell.bodies (heap_holdings cell) (own_segment cell.pid) book op

-- the same with one more cell, in whose heap there is room
pub record CanOperateWith (trace : Trace) (cell : HeapRecord) (other : OtherValue) (book : BookRecord) (op : Op) : Type 0 where
  pub book_stands : BookStands trace book
  pub heap_stands : HeapStands trace cell book
  pub other_stands : OtherStands trace other book
  pub in_range : IsTrue (in_range trace op)
  pub room : Fits book.journal cell.note → Fits book.journal other.held.note → HasRoomFor trace cell.bodies other.held other.seg book op

-- the same with the kernel's cell
abbrev pub CanOperateWithKernel : Trace → HeapRecord → HoldingsValue → BookRecord → Op → Type 0
CanOperateWithKernel trace cell kernel book op = CanOperateWith trace cell (of_kernel kernel) book op

-- the same with the cell of a shared heap
abbrev pub CanOperateWithShared : Trace → HeapRecord → SharedRecord → BookRecord → Op → Type 0
CanOperateWithShared trace cell shared book op = CanOperateWith trace cell (of_shared shared) book op
