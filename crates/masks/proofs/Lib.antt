-- Places: what the loop over the table counts and writes. Calls: the tests of a call, and its buffer.
pub mod Places
pub mod Calls
