pub mod Pass
pub mod Terms
