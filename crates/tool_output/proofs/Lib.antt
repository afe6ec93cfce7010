pub mod EndLemmas
pub mod LineLemmas
pub mod PutLemmas
pub mod WholeLemmas
