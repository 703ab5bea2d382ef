-- The laws of putting pieces one behind another.
pub mod Putting
