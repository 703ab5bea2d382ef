-- What the contracts of entries in words cite.
pub mod EntryText
