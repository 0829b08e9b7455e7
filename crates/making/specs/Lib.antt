pub mod Making
pub mod Answer
pub mod inner
