pub mod Adding
pub mod Texts
pub mod Examples
