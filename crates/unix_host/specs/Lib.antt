pub mod inside
pub mod Children
pub mod Counted
pub mod Endings
pub mod Listings
pub mod UnixHost
pub mod Unsynced
