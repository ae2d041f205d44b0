pub mod Rooms
pub mod NextObjects
pub use Rattle.k_laws.proofs.SetupLines as Lines
pub use Rattle.k_laws.proofs.Unread
pub use Rattle.k_text.proofs.Known
