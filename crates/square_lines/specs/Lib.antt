-- What the contracts of `square_lines` cite beside the definitions of square frames.
pub mod Frames
