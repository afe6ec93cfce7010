pub mod ScannedJobs
pub mod JobRows
pub mod Lined
pub mod JournalMark
pub mod Scan
pub mod Tables
