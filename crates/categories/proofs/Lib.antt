pub mod Words
pub mod Forms
