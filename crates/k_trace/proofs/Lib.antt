pub mod Short
pub mod Pushed
pub mod Made
