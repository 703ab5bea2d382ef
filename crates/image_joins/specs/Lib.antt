-- What the contracts of the joins and counts of an image cite.
pub mod Places
pub mod Sections
