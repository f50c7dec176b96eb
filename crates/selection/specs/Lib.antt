-- What the contracts of `selection` cite.
pub mod Places
