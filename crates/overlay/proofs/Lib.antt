-- The laws by which the C interface packs the answers of the public calls.
pub mod Fields
pub mod Wide
pub mod Surveying
