-- The laws by which a node's record in words meets its definition.
pub mod Pieces
