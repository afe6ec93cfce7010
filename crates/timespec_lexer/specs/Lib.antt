pub mod Keywords
pub mod Search
pub mod Tokens
