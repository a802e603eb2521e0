pub mod FirstByte
pub mod StringLaws
pub mod NumberCases
pub mod WordLaws
pub mod Marks
pub mod LongerMarks
