pub mod Known
pub mod LineLemmas
pub mod Counting
pub mod Objects
