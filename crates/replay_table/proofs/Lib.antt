-- The laws by which a node's table in words meets its definition.
pub mod Pieces
