pub mod Histories
pub mod Difference
pub mod Worked
pub mod Good
pub mod Verdicts
