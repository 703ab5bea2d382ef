-- Laws that the proofs of the check of a trace cite.
pub mod Faults
pub mod Paths
pub mod Walks
pub mod Sentences
