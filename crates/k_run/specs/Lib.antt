pub mod Runs
pub mod Opened
pub mod Words
pub mod Commands
pub mod Tellings
pub use Rattle.k_opening.specs.k_outcome
pub use Rattle.k_opening.specs.k_still.Opening
pub use Rattle.k_opening.specs as k_opening
pub use Rattle.k_opening.specs.Stills
pub use Rattle.k_opening.specs.k_locks.k_watch
pub use Rattle.k_opening.specs.Worlds
