pub mod Inside
pub mod Bounds
pub mod Walks
pub mod Several
