mod EntriesLemmas
pub mod StepLemmas
pub mod TableLemmas
mod UserLemmas
