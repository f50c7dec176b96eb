-- What the contracts of `square` cite beside the definitions of square frames.
pub mod Calls
