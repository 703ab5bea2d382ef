-- The laws by which one pass over the pairs gives the book's counts.
pub mod Counted
