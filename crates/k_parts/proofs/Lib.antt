pub mod Hosted
pub mod Meeting
pub mod Kept
pub mod Splits
pub mod Together
