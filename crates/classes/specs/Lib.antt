pub mod Sums
pub mod LeastSizes
pub mod Folds
