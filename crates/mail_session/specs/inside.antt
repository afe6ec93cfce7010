pub mod PlannedSession
pub mod SentNotice
pub mod RemainingChildren
pub mod SessionWork
