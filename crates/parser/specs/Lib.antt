pub mod Counters
pub mod Input
pub mod Buffer
pub mod State
pub mod Reads
pub mod Parsers
