pub mod ExampleLemmas
pub mod LawLemmas
pub mod OutcomeLemmas
pub mod ProceedLemmas
pub mod ServeLemmas
pub mod SinkLemmas
