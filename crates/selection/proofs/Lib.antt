-- Tallies: counting and keeping elements of a list. Placing: the value at a place, from those that are kept. Narrowing: the search for it.
pub mod Tallies
pub mod Placing
pub mod Narrowing
