pub mod Keeping
pub mod Kept
pub mod Publishing
pub use Rattle.k_host.specs.Asked
pub use Rattle.k_host.specs.k_guests.declared.guest.Guest
pub use Rattle.k_host.specs.HostError
pub use Rattle.k_host.specs.Calls
pub use Rattle.k_host.specs.declared.errors.OpenError
pub use Rattle.k_words.specs.Words
pub use Rattle.k_limits.specs.Limits
pub use Rattle.k_book.specs.Books
pub use Rattle.k_shares.specs.Sharers
pub use Rattle.k_host.specs.Whole
pub use Rattle.k_host.specs.k_guests
pub use Rattle.k_host.specs as k_host
