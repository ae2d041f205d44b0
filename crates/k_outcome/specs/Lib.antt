pub mod Cells
pub mod Ends
pub mod Listed
pub use Rattle.k_process.specs as k_process
