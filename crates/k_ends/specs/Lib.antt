pub mod Collecting
pub mod Refusals
pub mod Whole
pub mod Killing
pub use Rattle.k_calls.specs.Refusals as CallsRefusals
pub use Rattle.k_calls.specs.Apart
pub use Rattle.k_calls.specs.declared.came.Came
pub use Rattle.k_calls.specs.Doing
pub use Rattle.k_calls.specs.declared.errors.HostError
pub use Rattle.k_calls.specs.k_collect
pub use Rattle.k_calls.specs.k_guests
