pub mod Bits
pub mod Quotients
