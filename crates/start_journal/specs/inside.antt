pub mod LifeMaps
pub mod ForgottenNumbers
pub mod Overwrite
pub mod LivesOf
