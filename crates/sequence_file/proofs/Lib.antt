pub mod DrawingLemmas
pub mod FirstBytes
pub mod LastNumbers
pub mod SequenceLemmas
