-- Laws that the proofs of reading a trace cite.
pub mod Counts
