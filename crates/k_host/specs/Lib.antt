pub mod Hosts
pub mod Opening
pub mod Calls
pub mod Killing
pub mod Refusals
pub mod Twins
pub mod Asked
pub mod Growing
pub use Rattle.k_ends.specs.Refusals as EndsRefusals
pub use Rattle.k_ends.specs.Whole
pub use Rattle.k_ends.specs.HostError
pub use Rattle.k_ends.specs.CallsRefusals
pub use Rattle.k_ends.specs.Doing
pub use Rattle.k_mark.specs.Listening
pub use Rattle.k_ends.specs.k_collect
pub use Rattle.k_ends.specs.k_guests
pub use Rattle.k_trace.specs as k_trace
