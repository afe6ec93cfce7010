pub mod Removal
pub mod Others
pub mod Placement
pub mod TempFiles
pub mod Temporary
