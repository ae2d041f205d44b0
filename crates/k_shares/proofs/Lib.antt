pub mod Places
pub mod BitTests
pub mod Opened
pub mod Living
pub mod Walks
