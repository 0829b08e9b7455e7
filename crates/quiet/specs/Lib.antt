pub mod Limits
pub mod Window
pub mod Plan
pub mod Answer
