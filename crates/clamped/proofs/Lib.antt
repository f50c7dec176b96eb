pub mod Clamps
mod Bytes
