pub mod ChangesJoined
pub mod ClearLemmas
pub mod ContentLemmas
pub mod OthersLemmas
pub mod PlaceLemmas
pub mod ReplaceLemmas
