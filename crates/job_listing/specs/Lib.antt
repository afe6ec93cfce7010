pub mod LinePut
pub mod Scripts
pub mod inside
