pub mod Outside
pub mod Removal
pub mod Served
pub mod Tools
pub mod inside
