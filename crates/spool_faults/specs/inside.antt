pub mod FoundFiles
pub mod ScanResult
pub mod SavedParts
