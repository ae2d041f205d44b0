pub mod Members
pub mod Walks
pub mod Writes
pub mod Apart
pub mod Steps
pub mod Pushes
pub mod Removes
pub mod Grown
