-- What only private functions cite: none of it is to be believed. The bands on their way into a voice's lists.
pub mod BandArrays
