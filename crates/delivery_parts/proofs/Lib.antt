-- The laws by which the code of the deliveries meets the book.
pub mod Readers
pub mod Levels
pub mod Stores
pub mod Learned
pub mod Deliveries
