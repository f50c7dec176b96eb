pub mod Totals
pub mod Program
