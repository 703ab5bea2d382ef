-- The laws of a line's words, numbers and command.
pub mod Texts
pub mod Cuts
pub mod Values
pub mod FailedNodes
pub mod Examples
