-- Splitting: rates by one more bit at a time. Freezing: the order of the positions, from tallies, and the mask's bytes. Calls: the call's tests and the buffer
-- afterwards.
pub mod Splitting
pub mod Freezing
pub mod Calls
