pub mod CountLaws
pub mod SpacedLaws
