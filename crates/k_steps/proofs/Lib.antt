pub use Rattle.k_collect.proofs.Ends
pub use Rattle.k_collect.proofs.KernelBegins
pub use Rattle.k_collect.proofs.Sizes
