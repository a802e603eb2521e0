pub mod Positions
pub mod Pieces
