pub mod Reckoning
