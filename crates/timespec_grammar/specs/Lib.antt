pub mod Grammar
pub mod Numbers
pub mod Viable
pub mod inside
