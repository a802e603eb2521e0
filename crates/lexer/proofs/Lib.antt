pub mod FillLaws
pub mod SequenceLaws
pub mod CappedTotal
