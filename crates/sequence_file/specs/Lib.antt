pub mod Draw
pub mod Faults
pub mod LastNumber
pub mod Laws
pub mod Places
pub mod Sequence
