pub mod JobLemmas
pub mod OpeningLemmas
pub mod SessionLemmas
