-- Laws that join what the code has computed to the clauses of the book.
pub mod Past
pub mod WholeLaws
