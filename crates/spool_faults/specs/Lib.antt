pub mod Examples
pub mod Faults
pub mod Laws
pub mod Listed
pub mod Plan
pub mod Salvaged
pub mod Salvages
pub mod inside
