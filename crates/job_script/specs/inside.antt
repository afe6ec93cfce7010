pub mod Prefixes
pub mod Scan
