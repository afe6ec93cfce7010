pub mod Mark
pub mod MarkNames
pub mod Minutes
pub mod SessionOutcome
pub mod Steps
pub mod inside
