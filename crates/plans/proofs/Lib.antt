pub mod Parts
pub mod Cuts
pub mod Shares
pub mod Faults
