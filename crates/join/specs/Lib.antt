-- What the contract of beginning cites.
pub mod Begins
