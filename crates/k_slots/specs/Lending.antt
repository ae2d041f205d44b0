-- What lies in a place that C lends, and which places can be lent to one call.
use Rattle.std.specs.Prelude.{Option, Some, None}
use Rattle.k_parts.specs.Parts.{AreToldApart, BookPartValue, GuestPartValue, Home, KernelPartValue, SharedPartValue}
use Rattle.k_slots.specs.declared.slots.Part.{Part}
use Rattle.k_slots.specs.declared.slots.Part.TheVariants.{Book, Empty, Guest, Kernel, Lacking, Row, Shared}
use Rattle.k_slots.specs.declared.slots.PartSlot.{PartSlot}

-- the part of that kind, where it lies there
abbrev pub guest_of : Part → Option GuestPartValue
guest_of Empty = None
guest_of (Lacking line reason) = None
guest_of (Row row) = None
guest_of (Guest p) = Some p
guest_of (Kernel p) = None
guest_of (Shared p) = None
guest_of (Book p) = None

abbrev pub kernel_of : Part → Option KernelPartValue
kernel_of Empty = None
kernel_of (Lacking line reason) = None
kernel_of (Row row) = None
kernel_of (Guest p) = None
kernel_of (Kernel p) = Some p
kernel_of (Shared p) = None
kernel_of (Book p) = None

abbrev pub shared_of : Part → Option SharedPartValue
shared_of Empty = None
shared_of (Lacking line reason) = None
shared_of (Row row) = None
shared_of (Guest p) = None
shared_of (Kernel p) = None
shared_of (Shared p) = Some p
shared_of (Book p) = None

abbrev pub book_of : Part → Option BookPartValue
book_of Empty = None
book_of (Lacking line reason) = None
book_of (Row row) = None
book_of (Guest p) = None
book_of (Kernel p) = None
book_of (Shared p) = None
book_of (Book p) = Some p

-- the host of the part that lies there, where one does
abbrev pub home_of : Part → Option Home
home_of Empty = None
home_of (Lacking line reason) = None
home_of (Row row) = None
home_of (Guest p) = Some p.home
home_of (Kernel p) = Some p.home
home_of (Shared p) = Some p.home
home_of (Book p) = Some p.home

-- where both are there, they are one host, or have two numbers
abbrev pub AreApart : Option Home → Option Home → Type 0
AreApart None b = Unit {0}
AreApart (Some a) None = Unit {0}
AreApart (Some a) (Some b) = AreToldApart a b

-- what lies in the two places can be lent to one call
abbrev pub CanLendTwo : PartSlot → PartSlot → Type 0
CanLendTwo a b = AreApart (home_of a.part) (home_of b.part)

-- what lies in the first place can be lent to one call with each of the others
abbrev pub CanLendThree : PartSlot → PartSlot → PartSlot → Type 0
CanLendThree a b c = CanLendTwo a b × CanLendTwo a c

abbrev pub CanLendFour : PartSlot → PartSlot → PartSlot → PartSlot → Type 0
CanLendFour a b c d = CanLendTwo a b × CanLendTwo a c × CanLendTwo a d
