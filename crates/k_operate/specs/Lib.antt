pub mod Adding
pub mod Readiness
pub mod Steps
pub mod Collecting
pub mod Absorbing
pub mod Killing
pub use Rattle.k_own.specs.declared.reached.Reach
pub use Rattle.k_own.specs.Reaching
pub use Rattle.k_pair.specs.Operating
pub use Rattle.k_own.specs.Own
pub use Rattle.k_own.specs.Killing as DepartKilling
pub use Rattle.k_own.specs.Absorbing as DepartAbsorbing
pub use Rattle.k_own.specs.Exiting
pub use Rattle.k_collect.specs as k_collect
pub use Rattle.k_process.specs.k_commit
pub use Rattle.k_process.specs as k_process
