-- What the contracts of words cite.
pub mod Said
pub mod Sayable
pub mod Words
