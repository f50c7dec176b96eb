pub mod Sizes
pub mod Without
pub mod Others
pub mod FourClasses
pub mod Messages
pub mod Folded
