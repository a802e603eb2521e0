pub mod PositionLaws
pub mod PieceLaws
pub mod EndToEnd
