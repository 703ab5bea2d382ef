-- What the contracts of filling cite.
pub mod NodeSets
pub mod Sofar
pub mod Short
