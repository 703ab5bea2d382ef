-- What the contracts of an image's fields cite.
pub mod Parts
