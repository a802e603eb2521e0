pub mod Walk
pub mod Builders
