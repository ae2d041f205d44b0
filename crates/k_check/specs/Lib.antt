pub mod Stops
pub mod Walks
pub mod Verdicts
pub mod Turns
