pub mod Categories
pub mod Named
