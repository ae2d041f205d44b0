pub mod Places
pub mod Gathering
pub mod Rooms
pub use Rattle.k_process.specs as k_process
pub use Rattle.k_watch.specs as k_watch
