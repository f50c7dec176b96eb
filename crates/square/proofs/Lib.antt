pub mod Tests
pub mod Frames
pub mod Plans
pub mod Calls
