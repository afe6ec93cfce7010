pub mod Check
pub mod Form
pub mod Header
pub mod HeaderIn
pub mod JobText
pub mod Meaning
pub mod Variables
pub mod inside
