pub mod Adding
pub mod Apart
pub mod Doing
pub mod Refusals
pub use Rattle.k_operate.specs.Reaching
pub use Rattle.k_operate.specs.DepartKilling
pub use Rattle.k_operate.specs.DepartAbsorbing
pub use Rattle.k_operate.specs.Exiting
pub use Rattle.k_operate.specs.k_collect
pub use Rattle.k_operate.specs.k_commit
pub use Rattle.k_guests.specs as k_guests
pub use Rattle.k_guests.specs.k_process
