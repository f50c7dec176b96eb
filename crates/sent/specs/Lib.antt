-- What the contracts of `sent` cite beside the definitions of orders.
pub mod Calls
