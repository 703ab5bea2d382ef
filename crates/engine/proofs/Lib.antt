-- The laws by which the calls meet the book's.
pub mod Laws
pub mod ReadLaws
