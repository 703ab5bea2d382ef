-- Laws that the proofs of the check of K-consistency, and of filling, cite.
mod SetLaws
pub mod Gathering
pub mod Lacking
pub mod Alone
mod Judged
