-- The laws of a refusal in words.
pub mod Texts
