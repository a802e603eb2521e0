pub mod Heads
pub mod Calls
