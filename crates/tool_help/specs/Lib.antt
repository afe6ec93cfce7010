pub mod Help
pub mod Hints
pub mod HintTexts
pub mod SpoolHints
pub mod Version
