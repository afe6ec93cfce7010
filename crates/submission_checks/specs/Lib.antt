pub mod EarlyChecks
pub mod ReadCauses
pub mod TimeChecks
