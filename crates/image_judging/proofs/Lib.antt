-- Laws that join what the code has computed to the clauses of the book.
pub mod Keys
pub mod Faults
pub mod Runs
pub mod Rules
pub mod Reading
pub mod Marked
pub mod Sentences
