pub mod Inputs
pub mod Trees
pub mod Pairs
pub mod Twos
pub mod Runs
pub mod Stages
pub mod Rounds
