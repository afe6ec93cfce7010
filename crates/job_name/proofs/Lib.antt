pub mod JobNameLemmas
pub mod NamedJobs
