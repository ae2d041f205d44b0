pub use Rattle.k_own.specs.Reaching
pub use Rattle.k_own.specs.declared.reached.Reach
pub use Rattle.k_pair.specs.Operating
pub use Rattle.k_own.specs.Own
pub use Rattle.k_own.specs.Absorbing
pub use Rattle.k_own.specs.Exiting
pub use Rattle.k_own.specs.Killing
pub use Rattle.k_collect.specs.SweptAlone
pub use Rattle.k_collect.specs.Begun
pub use Rattle.k_collect.specs.Collecting
pub use Rattle.k_collect.specs.Marking
pub use Rattle.k_collect.specs.Ended
pub use Rattle.k_collect.specs as k_collect
