pub mod Ends
pub mod Moved
pub mod DoneOperations
pub mod Quiets
pub mod Completed
pub mod Owned
pub mod Replied
pub use Rattle.k_laws.proofs.FileOrders
