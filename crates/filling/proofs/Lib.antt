-- Laws of filling, for the functions that fill and measure.
mod Shorts
mod Listing
mod SetLaws
mod LowestAbsent
mod Alone
