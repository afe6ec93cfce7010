pub mod AddedLines
pub mod Dates
pub mod NextSession
