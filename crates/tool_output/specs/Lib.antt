pub mod Causes
pub mod Ends
pub mod Outside
pub mod PutLines
pub mod SaidLines
pub mod Sinks
pub mod Steps
pub mod Whole
