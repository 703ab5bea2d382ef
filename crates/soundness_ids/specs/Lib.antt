-- What the check of the ids cites.
pub mod Rows
