pub mod Shown
pub use Rattle.k_cell.proofs.Grayed
