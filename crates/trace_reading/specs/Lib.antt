-- What the contracts of reading a trace cite.
pub mod Read
