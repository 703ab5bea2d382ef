-- What the contracts of the check of a trace cite.
pub mod Faults
pub mod Paths
pub mod Walked
pub mod Judged
