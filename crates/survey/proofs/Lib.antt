-- The laws by which the program's lines meet their definition.
pub mod Texts
