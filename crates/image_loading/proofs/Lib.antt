-- The laws by which the code of loading meets the book.
pub mod Steps
