pub mod BookLemmas
pub mod LineLemmas
pub mod NameLemmas
pub mod OneText
pub mod RunLemmas
pub mod TextLemmas
pub mod WaitingLemmas
pub mod WritingLemmas
