pub mod Credits
pub mod Beginnings
pub mod Tables
pub mod Lines
pub mod Crediting
pub mod Worked
