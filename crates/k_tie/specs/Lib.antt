pub mod Rule
pub mod Steps
pub mod Values
pub use Rattle.k_types.specs as k_types
