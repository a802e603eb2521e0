pub mod AssociationStarts
pub mod WordBands
pub mod FirstWords
pub mod StartWords
pub mod Judging
pub mod Demands
pub mod Calling
