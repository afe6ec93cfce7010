mod AcceptLemmas
pub mod ParseLemmas
mod RangeLemmas
mod ReadLemmas
mod ViableLemmas
