pub mod Accepted
pub mod Outcomes
pub mod Words
pub mod Orders
