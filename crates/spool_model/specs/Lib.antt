pub mod Codes
pub mod JobTable
pub mod Laws
pub mod Lists
pub mod Numbers
pub mod Steps
pub mod StepsOf
pub mod Users
