pub mod Codes
pub mod Lending
pub mod Opening
pub mod Serving
