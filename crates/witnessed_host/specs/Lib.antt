pub mod Answered
pub mod Counted
pub mod EmptyWorld
pub mod PassedAnswers
