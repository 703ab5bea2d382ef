-- Laws that join what the code has computed to the clauses of the book.
pub mod SlotLaws
pub mod RowLaws
pub mod AloneLaws
pub mod LevelLaws
pub mod TableLaws
