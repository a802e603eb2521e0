pub mod Parts
pub mod Capping
