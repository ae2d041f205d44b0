pub mod Hash
pub mod Lists
pub mod Linked
