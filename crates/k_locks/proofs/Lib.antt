pub mod Places
pub mod Gathered
pub use Rattle.k_watch.proofs.SampleLists
pub use Rattle.k_watch.proofs.ShownOn
