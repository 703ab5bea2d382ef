-- Laws of refusals.
pub mod Errors
