pub mod Accepted
pub mod Ends
pub mod First
pub mod Loop
pub mod Lines
pub mod Tests
pub mod Examples
