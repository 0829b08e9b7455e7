-- What only private functions and proofs cite: none of it is to be believed. Ranges, and bands that the quick ring serves.
pub mod Ranges
pub mod Quiet
