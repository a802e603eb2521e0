pub mod Signs
pub mod Ranges
