pub mod Written
pub mod Counted
pub mod Steps
pub mod Answers
pub mod Results
