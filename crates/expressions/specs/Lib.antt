pub mod Openers
pub mod Behind
