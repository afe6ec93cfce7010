mod DateLemmas
mod LineLemmas
mod ListingProgramLemmas
mod ScheduleLemmas
pub mod ProgramLemmas
pub mod ReadLemmas
pub mod RunLemmas
