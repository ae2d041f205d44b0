pub mod Parts
pub mod Calls
pub mod Splitting
pub mod Together
pub mod Told
pub use Rattle.k_ends.specs.Came
pub use Rattle.k_ends.specs.HostError
pub use Rattle.k_host.specs.Asked
pub use Rattle.k_host.specs.Hosts
pub use Rattle.k_host.specs.Opening as HostsOpening
pub use Rattle.k_host.specs.declared.errors.OpenError
