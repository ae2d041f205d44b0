pub mod SharedHeaps
pub mod Lends
