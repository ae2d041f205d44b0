pub mod Limits
pub mod Rows
pub mod Paths
pub mod Laws
pub mod Resizes
pub use Rattle.k_types.specs as k_types
