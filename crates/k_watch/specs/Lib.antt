pub mod Samples
pub mod Numbers
pub mod Rule
pub mod Steps
pub mod Values
pub mod Shown
