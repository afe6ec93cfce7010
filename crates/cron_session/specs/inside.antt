pub mod Due
pub mod MarkThenSubmit
pub mod Room
pub mod SessionWork
pub mod Submissions
