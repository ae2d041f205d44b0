pub mod Heaps
pub mod Lends
pub use Rattle.k_cell.specs.Looks
pub use Rattle.k_cell.specs.Changes
pub use Rattle.k_cell.specs.Holdings
pub use Rattle.k_cell.specs.k_agree
pub use Rattle.k_cell.specs as k_cell
