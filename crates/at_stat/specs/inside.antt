pub mod StageLines
pub mod StageSearch
pub mod StateLines
pub mod WaitResults
