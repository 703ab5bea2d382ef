-- What the contracts of lookup cite.
pub mod Answer
pub mod Hop
