-- Laws that join the book's digits to the numbers of 32 bits that the code works on.
pub mod Places
pub mod Bits
pub mod Masks
