pub mod Every
pub mod Entries
pub mod Alike
pub mod Examples
