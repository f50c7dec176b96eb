pub mod Ranges
pub mod Tests
pub mod Answers
pub mod OneForAll
