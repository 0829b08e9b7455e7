-- What only private functions cite: none of it is to be believed.
pub mod Sorted
pub mod Extent
pub mod Keys
pub mod Image
pub mod Accepted
