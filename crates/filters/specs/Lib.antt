pub mod Wave
pub mod Rng
pub mod Rate
pub mod Biquad
pub mod Compensation
pub mod Band
pub mod inner
