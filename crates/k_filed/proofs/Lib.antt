pub mod Absorptions
pub mod Joined
pub mod Follows
pub mod Lines
