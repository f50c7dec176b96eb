-- What the contracts of `captures` cite beside the definitions of captures.
pub mod Layouts
