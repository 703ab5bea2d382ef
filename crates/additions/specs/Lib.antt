-- What the contracts of a list of additions cite.
pub mod Listed
