mod CheckLemmas
mod EndLemmas
mod FrameLemmas
mod LateLemmas
mod LookLemmas
mod SightLemmas
pub mod LineLemmas
pub mod PlainLemmas
pub mod StageLemmas
