pub mod WatchedRuns
pub mod Runs
pub mod Scripts
pub mod Snaps
pub mod Workloads
pub mod Works
