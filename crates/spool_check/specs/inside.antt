pub mod CheckParts
pub mod CopiedFiles
