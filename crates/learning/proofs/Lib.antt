-- The laws by which the loops of learning and gathering meet the book.
pub mod Places
pub mod Levels
