pub mod Periods
pub mod Strided
pub mod Sums
pub mod LeastSizes
pub mod Gathering
pub mod FourWords
pub mod Folding
