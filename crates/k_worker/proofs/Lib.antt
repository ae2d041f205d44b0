pub mod Stepped
pub mod Shows
