-- What the contracts of loading an image ask.
pub mod Loads
