pub mod Machine
pub mod Reports
pub mod InOrder
pub mod NameOrder
pub mod Setups
pub mod Known
pub mod Sorted
pub mod Arranged
