pub mod AcceptedLine
pub mod RequestOutcome
pub mod Session
pub mod SessionOutcome
pub mod Sessions
pub mod StoredJob
