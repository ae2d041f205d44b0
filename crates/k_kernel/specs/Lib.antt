pub mod Kernels
pub mod Lends
