pub mod Words
pub mod Numbers
pub mod Names
pub mod Spaced
pub mod Chained
