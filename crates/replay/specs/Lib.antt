-- What the contracts of the player of scripts cite.
pub mod Said
pub mod Script
