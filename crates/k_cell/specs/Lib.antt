pub mod Holdings
pub mod Carried
pub mod Changes
pub mod Looks
pub mod Placed
pub mod Rooted
pub mod Lends
pub use Rattle.k_agree.specs.Marking
pub use Rattle.k_agree.specs.Ending
pub use Rattle.k_mark.specs.Listening
pub use Rattle.k_agree.specs.GivingAway
pub use Rattle.k_agree.specs.Opening
pub use Rattle.k_mark.specs.k_laws.CellChanges
pub use Rattle.k_agree.specs as k_agree
pub use Rattle.k_mark.specs.k_types
pub use Rattle.k_agree.specs.k_laws
pub use Rattle.k_mark.specs.k_space
pub use Rattle.k_agree.specs.k_tie
