-- The laws by which the code of the joins and counts of an image meets the book.
pub mod Judged
pub mod Steps
