-- The laws of text put together piece by piece.
pub mod Decimals
pub mod Pieces
