pub mod Placing
pub mod Calls
pub mod RoundTrip
