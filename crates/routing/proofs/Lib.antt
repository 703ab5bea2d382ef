-- Laws that the proofs of lookup and of the survey cite.
pub mod Hops
