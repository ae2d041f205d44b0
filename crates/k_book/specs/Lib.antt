pub mod Entered
pub mod Kept
pub mod Objects
pub mod Books
pub mod Calls
pub mod Machine
pub use Rattle.k_agree.specs as k_agree
pub use Rattle.k_agree.specs.k_laws
pub use Rattle.k_entry.specs as k_entry
