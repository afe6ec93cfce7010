pub mod Civil
pub mod Meant
pub mod Zone
pub mod ZoneText
pub mod inside
