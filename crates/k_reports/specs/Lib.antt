pub mod Spelled
pub mod Reading
pub mod Histories
pub mod Begun
