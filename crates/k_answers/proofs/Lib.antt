pub mod Answered
pub mod Contract
pub mod Decided
pub mod Lines
pub mod Lists
pub mod Meanings
pub mod Ranges
pub use Rattle.k_audit.proofs.Setups as SnapshotSetups
pub use Rattle.k_big.proofs.Charges
pub use Rattle.k_big.proofs.Rules
pub use Rattle.k_check.proofs.Rooms
pub use Rattle.k_work.proofs.Numbers as WorkNumbers
pub use Rattle.k_work.proofs.Unread
