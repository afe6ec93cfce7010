pub mod CheckOutcome
pub mod FaultLines
pub mod Faults
pub mod Outside
pub mod SalvageOutcome
pub mod Words
pub mod inside
