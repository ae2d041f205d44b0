pub mod Answered
pub mod Handed
pub mod Lines
pub mod ReadBack
pub mod Written
