pub mod Sharers
pub mod Places
