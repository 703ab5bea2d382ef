-- Laws of what the code over one table computes.
pub mod Gathered
pub mod Fronts
pub mod Appended
pub mod Slots
