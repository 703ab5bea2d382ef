-- What the contracts of the lent words cite.
pub mod Lent
pub mod Loaded
pub mod Checked
