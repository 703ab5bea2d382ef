-- The laws by which the refusals meet the book.
pub mod AnyNode
pub mod DeliverLaws
pub mod ReadLaws
pub mod State
pub mod TraceLaws
