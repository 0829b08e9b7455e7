-- What only private functions and proofs cite: none of it is to be believed. Floats with no sign, ranges, and the roots of a column.
pub mod Normal
pub mod Range
pub mod Roots
