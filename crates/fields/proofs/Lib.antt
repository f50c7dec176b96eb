pub mod Finds
pub mod Numbers
pub mod Split
pub mod Stores
