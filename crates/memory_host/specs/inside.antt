pub mod Bodies
pub mod Faults
pub mod Kin
pub mod Story
pub mod Table
pub mod Known
