pub mod SignedDecimal
pub mod Written
