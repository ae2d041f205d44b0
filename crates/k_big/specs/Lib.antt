pub mod Workload
pub mod Counts
pub mod Summary
pub mod Words
pub mod Worked
