pub mod ExitLemmas
pub mod PostLemmas
pub mod StatLemmas
pub mod TrimLemmas
