pub mod EachBlock
pub mod WordSums
pub mod StrideLoop
pub mod Answers
