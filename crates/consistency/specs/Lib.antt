-- What the contracts of the check of K-consistency cite.
pub mod Answer
pub mod NodeSets
