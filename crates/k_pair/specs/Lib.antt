pub mod Operating
pub mod Remembered
pub mod Faults
pub mod Attached
pub mod NoStep
