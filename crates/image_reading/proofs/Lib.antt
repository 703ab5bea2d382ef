-- The laws by which the code of reading meets the book.
pub mod Judged
