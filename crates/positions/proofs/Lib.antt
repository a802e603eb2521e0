pub mod ColumnLaws
pub mod SpotLaws
