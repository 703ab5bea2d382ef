-- What the contracts of writing and measuring cite.
pub mod Joins
pub mod Records
