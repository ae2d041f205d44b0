pub mod Commands
pub mod Texts
pub mod Samples
pub mod Inputs
pub mod Reports
pub mod Answers
pub mod Scripts
pub mod Parts
pub use Rattle.k_reports.specs.Begun
pub use Rattle.k_state.specs.Setups
pub use Rattle.k_audit.specs as k_audit
pub use Rattle.k_big.specs as k_big
pub use Rattle.k_work.specs as k_work
