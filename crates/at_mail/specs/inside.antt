pub mod FoundNews
pub mod OneSession
pub mod TrimWrite
