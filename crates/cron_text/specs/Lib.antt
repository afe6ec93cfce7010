pub mod Crontab
pub mod Entry
pub mod Field
pub mod inside
