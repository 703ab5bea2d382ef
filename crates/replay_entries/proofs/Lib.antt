-- The laws of entries in words.
pub mod Texts
