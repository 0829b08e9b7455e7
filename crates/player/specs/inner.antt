-- What only private functions cite: none of it is to be believed. The passes over a channel, and the columns that they work in.
pub mod Ranges
pub mod Sines
pub mod Columns
pub mod Bands
pub mod Passes
pub mod Tuning
pub mod Terms
