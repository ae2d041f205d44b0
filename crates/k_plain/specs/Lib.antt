pub mod Sounds
pub mod Histories
pub mod Owned
