pub mod Legal
pub mod Traced
pub mod Accepted
pub mod Spelled
pub mod Stepped
pub mod Tested
pub use Rattle.k_solo.proofs.Unread
