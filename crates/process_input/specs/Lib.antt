pub mod Directories
pub mod StartupError
pub mod Umask
pub mod Zones
