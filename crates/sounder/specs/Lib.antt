pub mod Answer
pub mod Voices
pub mod Plans
pub mod Merges
