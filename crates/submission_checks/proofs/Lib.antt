pub mod ContextLemmas
pub mod PreparingLemmas
pub mod TimeLemmas
