pub mod JobName
pub mod Laws
