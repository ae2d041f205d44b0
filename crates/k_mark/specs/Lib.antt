pub mod Reached
pub mod Marking
pub mod Kept
pub mod Sweeping
pub mod Listening
pub mod Example
pub mod Shown
pub mod Parts
pub mod Lists
pub use Rattle.k_laws.specs.k_types
pub use Rattle.k_space.specs as k_space
pub use Rattle.k_exit.specs as k_exit
pub use Rattle.k_laws.specs as k_laws
