pub mod Starts
pub mod Words
pub mod Verdicts
