pub mod AccountFile
pub mod Inside
pub mod KnownJobs
pub mod NewRecordsOfJobs
pub mod OwnerCounts
pub mod Spelling
