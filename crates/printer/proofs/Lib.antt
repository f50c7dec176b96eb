pub mod Puts
pub mod Texts
pub mod Sizes
pub mod Whole
pub mod Back
pub mod Examples
