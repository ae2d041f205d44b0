pub mod Others
pub mod Standing
pub mod Rooms
pub mod Met
pub mod Changed
pub mod Owning
pub mod Stepped
pub mod Beside
pub mod Charging
pub mod Published
pub mod Resizing
pub use Rattle.k_kernel.specs.Kernels
pub use Rattle.k_agree.specs.Shown
pub use Rattle.k_heap.specs.Holdings
pub use Rattle.k_shared.specs.SharedHeaps
pub use Rattle.k_heap.specs.Heaps
pub use Rattle.k_heap.specs.declared.heap.CellRooms
pub use Rattle.k_book.specs.Books
pub use Rattle.k_book.specs.k_agree
pub use Rattle.k_book.specs as k_book
pub use Rattle.k_heap.specs.k_cell
pub use Rattle.k_heap.specs as k_heap
pub use Rattle.k_shared.specs as k_shared
