pub mod Forest
pub mod Grammar
pub mod Reader
pub mod Events
pub mod Tree
pub mod Notation
