-- What the contracts of the check of a notifying node cite.
pub mod Sets
