-- What the contracts of `reorder` cite beside the definition of the order.
pub mod Places
