mod NameLemmas
pub mod ClockRangeLemmas
pub mod DirectoryLemmas
pub mod SessionEndLemmas
pub mod SessionLemmas
pub mod WorldLemmas
