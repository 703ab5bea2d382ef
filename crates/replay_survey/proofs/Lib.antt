-- The laws by which a survey in words meets its definition.
pub mod Pairs
pub mod Pieces
