pub mod Marks
pub mod Notes
pub mod Leading
pub use Rattle.k_state.specs as k_state
