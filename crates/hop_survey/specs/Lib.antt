-- What the contracts of the hop survey cite.
pub mod Counted
