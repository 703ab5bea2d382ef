-- What judging an image knows on its way, and what its cursor and its walk hold.
pub mod Judged
pub mod Faults
pub mod Cursors
pub mod Marks
pub mod Walked
