-- The laws of playing a call.
pub mod Ones
