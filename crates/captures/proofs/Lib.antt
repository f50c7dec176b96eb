-- Laws that the proofs of `captures` cite; `Laws` and `Numbers` serve callers too.
pub mod Numbers
mod Trailer
pub mod Laws
