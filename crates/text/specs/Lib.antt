-- What the contracts of text cite.
pub mod Ascii
pub mod Numbers
pub mod Lines
