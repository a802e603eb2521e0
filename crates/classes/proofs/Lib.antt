pub mod ClassTable
pub mod Chunks
pub mod Rows
