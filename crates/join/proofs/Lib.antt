-- The laws by which the code of founding, beginning and withdrawing meets the book.
pub mod Laws
