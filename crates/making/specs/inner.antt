-- What only private functions cite: none of it is to be believed. Entries as their views, and arrays on the way to a voice.
pub mod Entry
pub mod Views
pub mod Sounding
pub mod Live
pub mod Columns
