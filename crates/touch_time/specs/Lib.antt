pub mod Touch
pub mod inside
