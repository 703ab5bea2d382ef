-- The laws of the player of scripts.
pub mod Turns
pub mod ScriptLines
pub mod RunKept
