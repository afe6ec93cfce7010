pub mod CountedLemmas
pub mod DueOrderLemmas
pub mod LineLemmas
pub mod OrderLemmas
pub mod RowLemmas
pub mod StartLemmas
