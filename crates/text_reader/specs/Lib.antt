pub mod Blanks
pub mod HexDigits
pub mod HexLaws
pub mod HexValues
pub mod Lines
pub mod ReadResult
