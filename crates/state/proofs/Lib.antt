-- Laws of loads, for callers.
pub mod Loads
pub mod Words
pub mod Filled
