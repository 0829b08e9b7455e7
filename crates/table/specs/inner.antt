-- What only private functions cite: none of it is to be believed.
pub mod Answers
pub mod Baseline
pub mod Entry
pub mod Header
pub mod Views
