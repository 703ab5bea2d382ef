-- What the contracts of a node's table in words cite.
pub mod TableText
pub mod Shape
