pub mod Opened
pub mod Reported
pub use Rattle.k_locks.proofs.SampleLists
pub use Rattle.k_locks.proofs.ShownOn
pub use Rattle.k_outcome.proofs.OverByMeeting
pub use Rattle.k_outcome.proofs.Setups
