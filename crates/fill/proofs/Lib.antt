-- The laws of the program's lines.
pub mod Texts
