-- What the contracts of the refusals cite.
pub mod Refused
