pub mod Order
pub mod Merge
pub mod Answer
pub mod inner
