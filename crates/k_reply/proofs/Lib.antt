pub mod FirstFaults
pub mod Used
