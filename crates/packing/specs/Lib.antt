-- What the contracts of packing cite.
pub mod Listed
pub mod Numbers
pub mod Packed
