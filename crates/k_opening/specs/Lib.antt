pub mod Stills
pub mod Worlds
pub use Rattle.k_locks.specs as k_locks
pub use Rattle.k_outcome.specs as k_outcome
pub use Rattle.k_still.specs as k_still
