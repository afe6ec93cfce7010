pub mod Dues
pub mod Order
pub mod Queues
pub mod TwoLines
