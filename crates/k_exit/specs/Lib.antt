pub mod Exits
pub mod Chains
pub use Rattle.k_types.specs as k_types
