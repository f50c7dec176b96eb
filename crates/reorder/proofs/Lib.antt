pub mod Places
pub mod Eights
pub mod Steps
