pub mod Operands
pub mod Alone
pub mod Operators
