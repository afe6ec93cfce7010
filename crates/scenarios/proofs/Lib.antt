pub mod ChildLemmas
pub mod DayLemmas
