pub mod Cause
pub mod Date
pub mod Lines
pub mod Listing
pub mod Refusal
