-- Laws that join what the code has read to the clauses of the book.
pub mod Bytes
