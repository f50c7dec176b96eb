-- What the contracts of `erasure` cite beside the definitions of masks.
pub mod Positions
