pub mod Watched
pub mod Runs
pub mod Scripts
pub use Rattle.k_answers.specs.Answers
