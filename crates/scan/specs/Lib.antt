pub mod Inner
pub mod Places
