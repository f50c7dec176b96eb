pub mod Nodes
pub mod Faults
