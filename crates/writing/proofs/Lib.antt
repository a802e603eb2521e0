pub mod DecimalLaws
pub mod LeastLaws
pub mod WriteLaws
