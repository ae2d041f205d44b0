pub mod Arguments
pub mod Ends
pub mod Numbers
pub mod Texts
pub mod Readings
pub mod Reports
pub mod Telling
