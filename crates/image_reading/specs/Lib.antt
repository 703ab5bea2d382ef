-- What the contracts of reading an image cite.
pub mod Reads
