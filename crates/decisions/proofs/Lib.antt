pub mod Folds
pub mod Signs
pub mod Buffers
pub mod Reading
