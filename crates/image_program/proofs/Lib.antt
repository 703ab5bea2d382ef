-- The laws that every program over images cites.
pub mod Overlong
pub mod Printing
