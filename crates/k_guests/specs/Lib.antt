pub mod Serving
pub mod Making
pub mod Reserve
pub mod Enough
pub mod Growing
pub use Rattle.k_process.specs.Keeping
pub use Rattle.k_process.specs as k_process
pub use Rattle.k_book.specs.Objects
