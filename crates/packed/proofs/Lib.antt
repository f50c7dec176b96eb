pub mod Bytes
pub mod Filled
