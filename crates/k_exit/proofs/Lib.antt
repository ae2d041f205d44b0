pub mod Last
pub mod Links
pub mod Relinks
pub mod Removes
pub mod Lists
pub mod First
pub mod Takes
pub mod Order
pub use Rattle.k_types.proofs.Charges
pub use Rattle.k_types.proofs.Lists as BaseLists
pub use Rattle.k_types.proofs.NameTests
pub use Rattle.k_types.proofs.Objects
pub use Rattle.k_types.proofs.Ordered
pub use Rattle.k_types.proofs.Sums
