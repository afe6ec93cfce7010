pub mod CheckLemmas
pub mod LawLemmas
pub mod SessionLemmas
pub mod SpoolLemmas
pub mod UserLemmas
